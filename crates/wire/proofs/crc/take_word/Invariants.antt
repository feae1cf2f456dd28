use Rattle.std.proofs.Common.{◌≡◌}
use Rattle.wire.specs.Checksum.{takes}
use Rattle.wire.proofs.crc.take_word.Given as goal

abbrev pub invariant-loop-i : goal.invariant-loop-i
invariant-loop-i l = takes l.i l.word l.sum ≡ takes 16 l.word l.start

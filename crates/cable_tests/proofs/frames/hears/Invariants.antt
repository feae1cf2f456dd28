use Rattle.std.proofs.Common.{◌≡◌, length}
use Rattle.cable_tests.proofs.frames.hears.Given as goal

abbrev pub invariant-loop-b : goal.invariant-loop-b
invariant-loop-b g l = length l.memory ≡ 514

-- The digits of the bytes so far stand at the front.
use Rattle.std.proofs.Common.{◌≡◌, ◌*◌, take}
use Rattle.recording.specs.Spelling.{spelled_bytes}
use Rattle.recording.proofs.digits.spell_all.Given as goal

abbrev pub invariant-loop-b : goal.invariant-loop-b
invariant-loop-b l =
    (l.count ≡ 2 * l.b-index) × (take l.count l.text ≡ spelled_bytes (take l.b-index l.bytes))

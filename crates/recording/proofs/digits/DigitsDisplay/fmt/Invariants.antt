-- The digits of the bytes so far are written.
use Rattle.std.proofs.Common.{◌≡◌, List, ℕ, ◌++◌}
use Rattle.std.specs.Fmt.{HasWritten, IsPlainFormatter}
use Rattle.recording.specs.Spelling.{spelled_bytes}
use Rattle.recording.proofs.digits.DigitsDisplay.fmt.Given as goal

abbrev pub invariant-loop-part : goal.invariant-loop-part
invariant-loop-part g l =
    (l.part-iterator.size ≡ 32)
    × (IsPlainFormatter l.initial.f → (front : List ℕ) × (front ++ l.part-iterator.rest.now ≡ l.initial.self.0.now)
    × HasWritten g.W.Write.write_str_gives l.initial.f (spelled_bytes front) l.f)

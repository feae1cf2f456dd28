-- The bytes so far were taken, and each of them added what it completes.
use Rattle.std.proofs.Common.{◌≡◌, ℕ, List, ◌++◌}
use Rattle.recording.specs.Reading.{left}
use Rattle.sniffer.specs.Adding.{AddsEach}
use Rattle.sniffer.specs.Sniffing.{Took}
use Rattle.sniffer.proofs.cable.Sniffer.take_all.Given as goal

abbrev pub invariant-loop-byte : goal.invariant-loop-byte
invariant-loop-byte l =
    (left l.initial.byte-iterator ≡ l.yielded ++ left l.byte-iterator)
    × ((stretch : List ℕ) → Took stretch l.initial.self
    → Took (stretch ++ l.yielded) l.self × AddsEach stretch l.yielded l.initial.self.report l.self.report)

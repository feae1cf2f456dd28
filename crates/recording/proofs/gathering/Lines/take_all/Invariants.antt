-- The lines that ended so far were told.
use Rattle.std.proofs.Common.{◌≡◌, take}
use Rattle.recording.specs.Playing.{all_taken, ending_lines, Hears}
use Rattle.recording.proofs.gathering.Lines.take_all.Given as goal

abbrev pub invariant-loop-b : goal.invariant-loop-b
invariant-loop-b g l =
    (l.self ≡ all_taken (take l.b-index l.chunk) l.initial.self)
    × Hears g.L.Listener.hears g.L.Listener.pauses (ending_lines (take l.b-index l.chunk) l.initial.self) l.initial.listener l.listener

-- What was read so far was taken, at least a byte by each read.
use Rattle.std.proofs.Common.{◌≡◌, length}
use Rattle.recording.proofs.Hearing.{Playing}
use Rattle.recording.proofs.playing.play.Given as goal

abbrev pub invariant-loop-reads : goal.invariant-loop-reads
invariant-loop-reads g l =
    (length l.chunk ≡ 65536)
    × Playing g.L.Listener.hears g.L.Listener.pauses (g.R.Read.remaining l.initial.input) (g.R.Read.remaining l.input) l._reads l.lines l.initial.listener l.listener

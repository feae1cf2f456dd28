-- One byte more is taken, and the line that it ends is told.
use Rattle.std.proofs.Common.{is_some}
use Rattle.recording.specs.Playing.{told_last, Hears}
use Rattle.recording.proofs.Hearing.{one_more, told_some, told_none}
use Rattle.recording.proofs.gathering.Lines.take_all.Goals.{in-Some+in_ok-tell, in_default}
use Rattle.recording.proofs.gathering.Lines.take_all.Goals as goal

pub loop-b-preserved : goal.loop-b-preserved
loop-b-preserved g c =
    let hears = g.L.Listener.hears in
    let pauses = g.L.Listener.pauses in
    let told : Hears hears pauses (told_last (is_some c.take.result) c.take.new.self) c.loop-b.listener c.match-take.listener
    = elim c.match-take.branch [
      | in-Some+in_ok-tell w ↦ told_some hears pauses c.take.result w.in-Some.number c.take.new.self c.loop-b.listener w.tell.new.listener c.match-take.listener w.in-Some.is w.listener-is w.in_ok-tell.ensures
      | in_default w ↦ told_none hears pauses c.take.result c.take.new.self c.loop-b.listener c.match-take.listener w.in_default.is w.listener-is
    ] in
    one_more hears pauses c.args.chunk.now c.loop-b.b-index c.take.result c.args.self.now c.loop-b.self c.take.new.self
    c.args.listener.now c.loop-b.listener c.match-take.listener c.loop-b-test.true c.loop-b.invariant.0 c.loop-b.invariant.1 c.take.ensures.taken c.take.ensures.ends told

use Rattle.std.proofs.Common.{OnOk, Ok, Err, Result}
use Rattle.recording.specs.Reading.{said}
use Rattle.recording.proofs.Hearing.{told_one}
use Rattle.recording.proofs.gathering.Lines.tell.Goals as goal

where_ok : {T E P Q : Type 0} (r : Result T E) → (P → Q) → OnOk r P → OnOk r Q
where_ok (Ok x) f p = f p
where_ok (Err e) f p = tt

pub returns : goal.returns
returns g c =
    where_ok c.line-2.result
    (told_one g.L.Listener.hears g.L.Listener.pauses c.args.number (said c.line.result) c.args.self.now c.args.listener.now c.line-2.new.self c.requires c.line.ensures.told)
    c.line-2.ensures

use Rattle.std.proofs.Common.{Err, sym, ap, ◌∙◌}
use Rattle.std.proofs.lemmas.Result.{err_from_is_err_and}
use Rattle.tables.proofs.RecordLaws.{refuses_at, at_record}
use Rattle.tables.proofs.Calls.{reads_at, memory_at}
use Rattle.tables.proofs.table.read.Goals as goal

pub returns-in_err-found : goal.returns-in_err-found
returns-in_err-found g c =
    let p = err_from_is_err_and c.from_residual.result c.from_residual.ensures.1 in
    let m = refuses_at _ g.R.Record.object _ _ _ _ c.in_err-found.ensures.meant in
    record { answer = p.1 ∙ ap Err p.2 ∙ sym (m.reads c.args.memory.now); memory = sym (m.memory c.args.memory.now) }

pub read-requires : goal.read-requires
read-requires g c = (at_record g.R.Addressed.key g.R.Record.object c.args.records.now c.args.pool.now c.args.at _ c.in_ok-found.ensures.meant c.index-records-found.result c.index-records-found.is).counts

pub returns : goal.returns
returns g c =
    let held = at_record g.R.Addressed.key g.R.Record.object c.args.records.now c.args.pool.now c.args.at _ c.in_ok-found.ensures.meant c.index-records-found.result c.index-records-found.is in
    record {
      answer = c.read.ensures.answer ∙ sym (reads_at _ _ _ held.holds c.args.memory.now);
      memory = c.read.ensures.memory ∙ sym (memory_at _ _ _ held.holds c.args.memory.now);
    }

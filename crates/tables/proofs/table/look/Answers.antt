use Rattle.std.proofs.Common.{sym}
use Rattle.std.proofs.lemmas.Result.{err_from_is_err_and}
use Rattle.tables.proofs.RecordLaws.{refuses_at, at_record, looked}
use Rattle.tables.proofs.table.look.Goals as goal

pub returns-in_err-found : goal.returns-in_err-found
returns-in_err-found g c =
    let p = err_from_is_err_and c.from_residual.result c.from_residual.ensures.1 in
    rw (p.1, p.2) (sym (refuses_at _ g.R.Record.object _ _ _ _ c.in_err-found.ensures.meant).looks)

pub returns : goal.returns
returns g c =
    let held = at_record g.R.Addressed.key g.R.Record.object c.args.records.now c.args.pool.now c.args.at _ c.in_ok-found.ensures.meant c.index-records-found.result c.index-records-found.is in
    looked _ _ _ _ _ _ _ _ held c.look.result (rw c.look.ensures (g.met.R.Record.tells _ _ _ held.counts))

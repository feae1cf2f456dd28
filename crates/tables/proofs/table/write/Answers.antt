use Rattle.std.proofs.Common.{◌≡◌, length, get_or, Err, sym, ap, ◌∙◌, subst, arith}
use Rattle.std.proofs.lemmas.Result.{err_from_is_err_and}
use Rattle.dictionary.specs.declared.Look.{Look}
use Rattle.dictionary.specs.Objects.{LengthAllowed}
use Rattle.tables.proofs.RecordLaws.{refuses_at, at_meant, at_position, meant_at, done_refused, done_accepted, shape_allowed, refused_at, accepted_at, allowed_length}
use Rattle.tables.proofs.table.write.Goals as goal

pub returns-in_err-found : goal.returns-in_err-found
returns-in_err-found g c =
    let p = err_from_is_err_and c.from_residual.result c.from_residual.ensures.1 in
    let e = (refuses_at _ g.R.Record.object _ _ _ _ c.in_err-found.ensures.meant).writes c.args.bytes.now in
    let k = done_refused g.R.Addressed.key g.R.Record.object c.args.records.now c.args.pool.now c.args.at g.R.Record.stored g.R.Record.filled c.args.bytes.now _ e c.from_residual.result (p.1 ∙ ap Err p.2) in
    record { answer = k.answer; after = k.after; written = k.written }

pub admit-requires : goal.admit-requires
admit-requires g c =
    let held = at_position g.R.Addressed.key g.R.Record.object c.args.records.now c.args.pool.now c.args.at _ c.in_ok-found.ensures.meant c.index-records-found.result in
    shape_allowed _ _ _ _ _ _ _ _ held c.look.result (rw c.look.ensures (g.met.R.Record.tells _ _ _ held.counts))

pub returns-in_err-admit : goal.returns-in_err-admit
returns-in_err-admit g c =
    let p = err_from_is_err_and c.from_residual-in_err-admit.result c.from_residual-in_err-admit.ensures.1 in
    let held = at_position g.R.Addressed.key g.R.Record.object c.args.records.now c.args.pool.now c.args.at _ c.in_ok-found.ensures.meant c.index-records-found.result in
    let e = refused_at _ _ _ _ _ _ _ _ held c.look.result (rw c.look.ensures (g.met.R.Record.tells _ _ _ held.counts)) c.args.bytes.now _ (sym c.admit.ensures ∙ c.in_err-admit.was) in
    let k = done_refused g.R.Addressed.key g.R.Record.object c.args.records.now c.args.pool.now c.args.at g.R.Record.stored g.R.Record.filled c.args.bytes.now _ e c.from_residual-in_err-admit.result (p.1 ∙ ap Err p.2) in
    record { answer = k.answer; after = k.after; written = k.written }

pub store-requires : goal.store-requires
store-requires g c =
    let found = c.in_ok-found.ensures.meant in
    let held = at_position g.R.Addressed.key g.R.Record.object c.args.records.now c.args.pool.now c.args.at _ found c.index-records-found-2.result in
    let same : c.look.result ≡ g.R.Record.told (get_or c.args.records.now c.in_ok-found.found.position c.index-records-found-2.result) =
    c.look.ensures ∙ ap g.R.Record.told (meant_at g.R.Addressed.key g.R.Record.object c.args.records.now c.args.pool.now c.args.at _ found _ ∙ sym (meant_at g.R.Addressed.key g.R.Record.object c.args.records.now c.args.pool.now c.args.at _ found _)) in
    record { counts = held.counts; length = rw (← same) (allowed_length c.look.result c.args.bytes.now (sym c.admit.ensures ∙ c.in_ok-admit.was)) }

pub returns : goal.returns
returns g c =
    let v = c.args.bytes.now in
    let found = c.in_ok-found.ensures.meant in
    let ok = sym c.admit.ensures ∙ c.in_ok-admit.was in
    let held = at_position g.R.Addressed.key g.R.Record.object c.args.records.now c.args.pool.now c.args.at _ found c.index-records-found.result in
    let none = accepted_at _ _ _ _ _ _ _ _ held c.look.result (rw c.look.ensures (g.met.R.Record.tells _ _ _ held.counts)) v ok in
    let same : c.look.result ≡ g.R.Record.told found.0 = c.look.ensures ∙ ap g.R.Record.told (meant_at g.R.Addressed.key g.R.Record.object c.args.records.now c.args.pool.now c.args.at _ found _) in
    let fits = subst (λ (x : Look). LengthAllowed x.shape (length v)) same (allowed_length c.look.result v ok) in
    let counts = (at_meant g.R.Addressed.key g.R.Record.object c.args.records.now c.args.pool.now c.args.at _ found).counts in
    let stores = g.met.R.Record.stores c.args.pool.now found.0 c.in_ok-found.found.place v counts fits (λ i. omega (arith, c.type_inv.bytes i)) in
    let k = done_accepted g.R.Addressed.key g.R.Record.object c.args.records.now c.args.pool.now c.args.at _ found g.R.Record.stored g.R.Record.filled v stores none _ c.store.new.self c.store.ensures.record c.store.new.pool c.store.ensures.pool in
    record { answer = k.answer; after = k.after; written = k.written }

-- The records that were passed are not meant; so the first that matches is, and if none does, none is.
use Rattle.std.proofs.Common.{sym, ◌∙◌, arith}
use Rattle.std.proofs.lemmas.Bool.{true≢false}
use Rattle.tables.proofs.Searching.{found, near, past, nothing}
use Rattle.tables.proofs.search.find.Goals as goal
use Rattle.tables.proofs.search.find.Goals.{then-counts+then-here-at+else-here-at-2, else-counts, else-counts-via-then-counts+else-here-at, else-counts-via-else-counts}

pub returns-then-here-at-2-clause-meant : goal.returns-then-here-at-2-clause-meant
returns-then-here-at-2-clause-meant g c =
    let turn = c.loop-position in
    rw (← c.first-front.ensures.front)
    (found _ _ _ _ _ _ _ turn.invariant.1 c.index-front-position.result c.loop-position-test.true c.index-front-position.is c.address-here.result c.address-here.ensures (sym c.if-counts.ensures) c.if-here-at.true c.if-here-at-2.true)

pub loop-position-preserved : goal.loop-position-preserved
loop-position-preserved g c =
    let r = c.index-front-position.result in
    let here = c.address-here in
    let turn = c.loop-position in (
      omega arith,
      elim c.if-counts.branch [
        | then-counts+then-here-at+else-here-at-2 w ↦
            near _ _ _ _ _ _ _ turn.invariant.1 r c.loop-position-test.true c.index-front-position.is here.result here.ensures _ _ c.extent.ensures w.absent-is (sym c.counts.ensures ∙ w.if-counts.true) w.if-here-at.true w.if-here-at-2.false
        | else-counts w ↦
            past _ _ _ _ _ _ _ turn.invariant.1 r c.loop-position-test.true c.index-front-position.is here.result here.ensures _ _ c.extent.ensures w.absent-is
            (elim w.else-counts.branch [
              | else-counts-via-then-counts+else-here-at v ↦ λ _. v.if-here-at.false
              | else-counts-via-else-counts v ↦ λ t _. absurd (true≢false (sym t ∙ sym c.counts.ensures ∙ v.if-counts.false))
            ])
      ],
    )

pub returns-clause-meant : goal.returns-clause-meant
returns-clause-meant g c =
    let turn = c.loop-position in
    rw (← c.first-front.ensures.front)
    (nothing _ _ _ _ _ _ _ turn.invariant.1 c.loop-position-test.false)

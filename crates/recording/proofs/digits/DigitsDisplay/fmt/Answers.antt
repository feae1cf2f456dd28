-- The digits of one part more are written.
use Rattle.std.proofs.Common.{◌++◌, true, refl, sym, ap, ◌∙◌, append_assoc}
use Rattle.std.proofs.lemmas.Grind.{flat_map-append, put_two}
use Rattle.recording.specs.Spelling.{spelled_byte}
use Rattle.recording.proofs.digits.DigitsDisplay.fmt.Goals as goal

pub loop-part-preserved : goal.loop-part-preserved
loop-part-preserved g c =
    let part = c.in-Some.part.now in
    let steps = c.in-Some.ensures.steps in (
      steps.0 ∙ c.loop-part.invariant.0,
      λ p.
          let before = c.loop-part.invariant.1 p in
          let front = before.0 in (
            front ++ part,
            append_assoc front part c.next.new.self.rest.now ∙ ap (λ l. front ++ l) (sym steps.1.0) ∙ before.1,
            put_two _ _ _ _ _ _ _ before.2 (c.in_ok-write_part.ensures before.2.plain (refl {a = true})) (sym (flat_map-append spelled_byte front part)),
          ),
    )

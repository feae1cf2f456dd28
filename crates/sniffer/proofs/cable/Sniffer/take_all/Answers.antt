-- One byte more of the stretch.
use Rattle.std.proofs.Common.{ℕ, List, [], ◌∷◌, ◌++◌, sym, ap, ◌∙◌, subst, append_assoc}
use Rattle.recording.specs.Reading.{left}
use Rattle.sniffer.specs.Sniffing.{Took}
use Rattle.sniffer.proofs.Adding.{adds_push}
use Rattle.sniffer.proofs.cable.Sniffer.take_all.Goals as goal

pub loop-byte-preserved : goal.loop-byte-preserved
loop-byte-preserved c =
    let taken = c.loop-byte.yielded in
    let b = c.in-Some.byte in
    let P : List ℕ → Type 0 = λ s. Took s c.take.new.self in (
      c.loop-byte.invariant.0 ∙ ap (λ l. taken ++ l) c.in-Some.ensures.steps ∙ sym (append_assoc taken (b ∷ []) (left c.next.new.self)),
      λ stretch took.
          let before = c.loop-byte.invariant.1 stretch took in
          let step = c.in_ok-take.ensures (stretch ++ taken) before.0 in (
            subst P (append_assoc stretch taken (b ∷ [])) step.0,
            adds_push taken stretch b c.args.self.now.report c.loop-byte.self.report c.take.new.self.report before.1 step.1,
          ),
    )

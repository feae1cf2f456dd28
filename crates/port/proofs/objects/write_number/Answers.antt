use Rattle.std.proofs.Common.{ℕ, take, ap, ◌∙◌, arith}
use Rattle.command.specs.Answers.{four}
use Rattle.port.proofs.ObjectCalls.{wrote}
use Rattle.port.proofs.objects.write_number.Goals as goal

pub returns : goal.returns
unfolding four
returns g c =
    let i = c.in-Number in
    let bytes = ap (λ (x : ℕ). take x c.to_le_bytes.result) (omega (arith, c.from.ensures)) ∙ ap (take i.width) c.to_le_bytes.ensures in
    let h = wrote (g.D.Dictionary.meaning c.args.dict.now) c.args.at c.args.number _ c.in_ok-found.ensures i.width i.signed i.low i.high i.is _ bytes c.write.result c.write.ensures.answer _ c.write.ensures.after in
    record { answer = h.0; after = h.1 }

use Rattle.std.proofs.Common.{◌≡◌, Err, ◌∙◌, rules}
use Rattle.dictionary.specs.declared.Fault.TheVariants.{NoIndex}
use Rattle.dictionary.specs.Calls.{write_answer}
use Rattle.layers.proofs.LayerLaws.{after_second, by_first}
use Rattle.layers.proofs.pair.PairDictionary.write.Goals as goal

pub returns-in-Err-NoIndex-clause-after : goal.returns-in-Err-NoIndex-clause-after
returns-in-Err-NoIndex-clause-after g c =
    let d = g.D.Dictionary.meaning c.args.self.now.first in
    let e = g.E.Dictionary.meaning c.args.self.now.second in
    let refused = c.in-Err-NoIndex.ensures in
    let absent : write_answer d c.args.at c.args.bytes.now ≡ Err NoIndex = cc refused.answer in
    after_second d e c.args.at c.args.bytes.now absent _ _ c.write.ensures.after c.write-in-Err-NoIndex.ensures.after

pub returns-in_default : goal.returns-in_default
returns-in_default g c =
    let d = g.D.Dictionary.meaning c.args.self.now.first in
    let e = g.E.Dictionary.meaning c.args.self.now.second in
    let taken : write_answer d c.args.at c.args.bytes.now ≡ Err NoIndex → ⊥ = λ h. (let r = c.in_default.ensures.answer in let z = r ∙ h in search rules) in
    let w = by_first d e c.args.at c.args.bytes.now taken _ _ c.write.ensures.after c.in_default.ensures.answer in
    record { answer = w.answer; after = w.after; first = c.write.ensures.after; second = w.second }

pub returns-in_default-2-clause-after : goal.returns-in_default-2-clause-after
returns-in_default-2-clause-after g c =
    let d = g.D.Dictionary.meaning c.args.self.now.first in
    let e = g.E.Dictionary.meaning c.args.self.now.second in
    (by_first d e c.args.at c.args.bytes.now (λ h. cc) _ _ c.write.ensures.after c.write.ensures.answer).after

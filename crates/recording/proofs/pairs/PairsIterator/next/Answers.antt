-- A pair taken from the front gives its byte.
use Rattle.std.proofs.Common.{rules}
use Rattle.std.proofs.lemmas.List.{take_rest}
use Rattle.recording.specs.Reading.{left}
use Rattle.recording.proofs.Couples.{gives, leaves, goes}
use Rattle.recording.proofs.pairs.PairsIterator.next.Goals as goal

pub invariant_of-self : goal.invariant_of-self
invariant_of-self c =
    let text = c.args.self.now.text.now in
    record { few = search rules; whole = leaves text _ c.in-len2-up.len_at_least (take_rest text 2) c.args.self.now.whole }

pub returns-clause-steps : goal.returns-clause-steps
returns-clause-steps c =
    let text = c.args.self.now.text.now in
    gives text _ c.pair.result c.in-len2-up.len_at_least (take_rest text 2) c.args.self.now.whole c.pair.ensures

pub returns-clause-goes : goal.returns-clause-goes
returns-clause-goes c = goes _ (λ _. tt) left _ _ _ (returns-clause-steps c)

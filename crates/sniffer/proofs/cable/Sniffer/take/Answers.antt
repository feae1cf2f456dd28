-- A byte that completes a body adds its line.
use Rattle.std.proofs.Common.{[], ◌∷◌, ◌++◌, take}
use Rattle.sniffer.proofs.Adding.{adds_or_stays}
use Rattle.sniffer.proofs.cable.Sniffer.take.Goals as goal

pub returns : goal.returns
returns c =
    λ stretch took.
    let told = c.in-Some.ensures.heard stretch took in
    let cable = stretch ++ c.args.byte ∷ [] in
    let body = take c.in-Some.count c.advance.new.memory in
    let passed = c.judge.ensures.passes cable told.1.1 in (
      told.0,
      adds_or_stays c.body.result cable c.judge.result body c.args.self.now.report c.body.new.self passed c.body.ensures,
    )

use Rattle.std.proofs.Common.{take, arith, rules}
use Rattle.wire.proofs.Tellings.{taken, told, widened}
use Rattle.wire.proofs.receiving.Receiver.take.Goals as goal

pub returns : goal.returns
returns c =
    let p = c.args.self.now.phase in
    let n = c.args.self.now.gathered in
    let m = c.args.memory.now in
    let first = c.in-Some.ensures.cases in
    let few = c.args.self.now.few in
    let long = first.enough in
    let t = widened p n m _ _ _ _ _ _ _ (omega (arith, few)) long first.same (search rules) c.advance.ensures.took in
    record {
      outcome = taken p n m _ _ _ _ _ (omega (arith, long)) t;
      heard = λ stretch _. told p (take n m) _ _ _ _ _ _ t stretch;
    }

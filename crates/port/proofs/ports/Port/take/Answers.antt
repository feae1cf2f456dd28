use Rattle.std.proofs.Common.{take}
use Rattle.wire.specs.Receiving.{step}
use Rattle.port.specs.Ports.{board}
use Rattle.port.proofs.Taking.{answered_call}
use Rattle.port.proofs.ports.Port.take.Goals as goal

pub returns-clause-steps : goal.returns-clause-steps
returns-clause-steps g c =
    let b = board c.args.self.now (g.D.Dictionary.meaning c.args.dict.now) c.args.frame.now c.args.staging.now c.args.answer.now in
    let s = step c.args.self.now.receiver.phase (take c.args.self.now.receiver.gathered c.args.frame.now) c.args.byte in
    answered_call c.args.self.now.node b s c.in_ok-count.count _ _ c.advance.new.memory c.in_ok-count.ensures.took c.reply.result _ _ _ _ c.reply.ensures

use Rattle.std.proofs.Common.{arith}
use Rattle.wire.proofs.Gathers.{gathers, completes}
use Rattle.wire.proofs.receiving.Receiver.gather.Goals as goal

pub returns-then-gathered-body_len : goal.returns-then-gathered-body_len
returns-then-gathered-body_len c =
    gathers c.args.memory.now c.args.self.now.gathered c.args.byte (omega (arith, c.args.self.now.few)) (omega (arith, c.body_len.ensures))

pub returns : goal.returns
returns c =
    completes c.args.memory.now c.args.self.now.gathered c.args.byte (omega (arith, c.args.self.now.few))
    c.silence.ensures.phase c.silence.ensures.gathered (omega (arith, c.body_len.ensures))

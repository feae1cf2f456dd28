use Rattle.std.proofs.Common.{arith}
use Rattle.wire.proofs.Laying.{turn_far, turn_laid, turn_room}
use Rattle.wire.proofs.framing.put_all.Goals as goal

pub put-at-requires : goal.put-at-requires
put-at-requires c = omega (arith, c.loop-b.auto.memory, turn_room _ _ _ _ _ _ c.loop-b.invariant.0 c.loop-b.invariant.1 c.requires c.loop-b-test.true)

pub loop-b-preserved : goal.loop-b-preserved
loop-b-preserved c = (
  turn_far _ _ _ _ _ _ c.loop-b.invariant.0 c.loop-b.invariant.1 c.requires _ c.loop-b-test.true c.put-at.ensures.after,
  turn_laid _ _ _ _ _ _ c.loop-b.invariant.0 c.loop-b.invariant.1 c.requires _ c.loop-b-test.true c.put-at.ensures.laid,
)

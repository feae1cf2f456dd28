use Rattle.std.proofs.Common.{length, arith}
use Rattle.port.proofs.Running.{continues}
use Rattle.port.proofs.runs.run.Goals as goal

pub loop-step-preserved : goal.loop-step-preserved
loop-step-preserved g c =
    let l = c.loop-step in
    continues (g.D.Dictionary.meaning c.args.dict.now) (g.D.Dictionary.meaning l.dict) (g.D.Dictionary.meaning c.make.new.dict) (length c.args.frame.now) (length c.args.staging.now)
    c.args.steps.now l.steps l.step-index c.args.node l.port c.make.new.port l.frame c.make.new.frame l.staging c.make.new.staging _ c.make.new.self
    (omega (arith, l.auto.steps)) l.auto.frame l.auto.staging c.make.ensures l.invariant

use Rattle.std.proofs.Common.{length}
use Rattle.port.proofs.Running.{SoFar}
use Rattle.port.proofs.runs.run.Given as goal

abbrev pub invariant-loop-step : goal.invariant-loop-step
invariant-loop-step g l =
    SoFar (g.D.Dictionary.meaning l.initial.dict) (g.D.Dictionary.meaning l.dict) (length l.initial.frame) (length l.initial.staging) l.initial.steps l.steps l.step-index
    l.node l.port l.frame l.staging

use Rattle.wire.proofs.Tellings.{told}
use Rattle.wire.proofs.receiving.Receiver.advance.Goals as goal

pub returns : goal.returns
returns c = record { took = c.step.ensures; heard = told _ _ _ _ _ _ _ _ c.step.ensures }

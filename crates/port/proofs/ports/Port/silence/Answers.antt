use Rattle.port.proofs.Keeping.{silent}
use Rattle.port.proofs.ports.Port.silence.Goals as goal

pub returns-clause-lawful : goal.returns-clause-lawful
returns-clause-lawful c = λ d0 events d frame staging led. silent _ _ _ _ _ _ d0 events d frame c.silence.ensures.phase c.silence.ensures.gathered led

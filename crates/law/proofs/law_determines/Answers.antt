use Rattle.law.proofs.Determined.{determined}
use Rattle.law.proofs.law_determines.Goals as goal

pub returns-clause-determined : goal.returns-clause-determined
returns-clause-determined c = determined

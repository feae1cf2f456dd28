use Rattle.std.proofs.Common.{[]}
use Rattle.wire.proofs.Holding.{fold_holds}
use Rattle.wire.proofs.laws.receiver_laws.Goals as goal

pub returns-clause-starts : goal.returns-clause-starts
returns-clause-starts c = λ memory. fold_holds []

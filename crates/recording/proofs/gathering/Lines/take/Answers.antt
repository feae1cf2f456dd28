-- A step keeps the law of the lines that were told.
use Rattle.std.proofs.Common.{is_some, rules}
use Rattle.recording.proofs.Steps.{gathers_more}
use Rattle.recording.proofs.gathering.Lines.take.Goals as goal

pub returns-clause-gathers : goal.returns-clause-gathers
returns-clause-gathers c =
    gathers_more c.args.byte c.args.self.now c.advance.new.self (is_some c.then_some.result) (search rules) c.advance.ensures.taken

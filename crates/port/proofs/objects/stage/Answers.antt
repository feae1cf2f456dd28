use Rattle.port.proofs.ObjectCalls.{read_length, read_into}
use Rattle.port.proofs.objects.stage.Goals as goal

pub returns-clause-answer : goal.returns-clause-answer
returns-clause-answer g c =
    read_length (g.D.Dictionary.meaning c.args.dict.now) c.args.at (g.D.Dictionary.sound c.args.dict.now) c.args.staging.now c.told-staging c.read.result c.read.ensures.answer

pub returns-clause-staging : goal.returns-clause-staging
returns-clause-staging g c =
    read_into (g.D.Dictionary.meaning c.args.dict.now) c.args.at (g.D.Dictionary.sound c.args.dict.now) c.args.staging.now c.told-staging c.read.new.memory c.read.ensures.memory

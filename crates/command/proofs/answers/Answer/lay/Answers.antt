use Rattle.command.proofs.Fitting.{suffices}
use Rattle.command.proofs.answers.Answer.lay.Goals as goal

pub returns-clause-suffices : goal.returns-clause-suffices
returns-clause-suffices c =
    suffices _ c.data.result.now c.args.memory.now _ _ c.data.ensures.bytes c.data.ensures.words c.data.ensures.few c.lay_answer.ensures.result c.lay_answer.ensures.memory

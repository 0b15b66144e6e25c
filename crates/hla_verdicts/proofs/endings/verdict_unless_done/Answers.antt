use Rattle.hla_verdicts.proofs.Steps.Endings.{ending_not_done}
use Rattle.hla_verdicts.proofs.endings.verdict_unless_done.Goals as goal

pub returns-else-is_done : goal.returns-else-is_done
returns-else-is_done c d f x plain only is =
    ending_not_done d f x plain d c.args.outcome.now c.in-Ok.answer.now c.args.choice.now c.is_done.result only c.in-Ok.ensures.answered.1 c.is_done.ensures c.if-is_done.false

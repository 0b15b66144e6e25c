use Rattle.hla_progress.proofs.Waiting.Lists.{tick_answers}
use Rattle.hla_progress.proofs.at_once.each_tick_answers_at_once.Goals as goal

pub returns : goal.returns
returns c = tick_answers

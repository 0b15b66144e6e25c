use Rattle.hla_progress.proofs.Waiting.Lists.{reached_comes}
use Rattle.hla_progress.proofs.at_once.each_reached_comes_at_once.Goals as goal

pub returns : goal.returns
returns c = reached_comes

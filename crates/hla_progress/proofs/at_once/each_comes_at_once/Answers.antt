use Rattle.hla_progress.proofs.Waiting.Lists.{comes_at_once}
use Rattle.hla_progress.proofs.at_once.each_comes_at_once.Goals as goal

pub returns : goal.returns
returns c = comes_at_once

use Rattle.hla_progress.proofs.Creep.Granted.{follows_one}
use Rattle.hla_progress.proofs.creeping.each_follows_one.Goals as goal

pub returns : goal.returns
returns c = follows_one

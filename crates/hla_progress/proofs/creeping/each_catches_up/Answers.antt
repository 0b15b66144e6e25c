use Rattle.hla_progress.proofs.Creep.Granted.{catches_up_creeping}
use Rattle.hla_progress.proofs.creeping.each_catches_up.Goals as goal

pub returns : goal.returns
returns c = catches_up_creeping

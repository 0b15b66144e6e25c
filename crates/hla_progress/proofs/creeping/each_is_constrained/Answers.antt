use Rattle.hla_progress.proofs.Creep.Constrained.{is_constrained_creeping}
use Rattle.hla_progress.proofs.creeping.each_is_constrained.Goals as goal

pub returns : goal.returns
returns c = is_constrained_creeping

use Rattle.hla_progress.proofs.Holding.Bounds.{bound_holds}
use Rattle.hla_progress.proofs.getting_on.the_bound_holds.Goals as goal

pub returns : goal.returns
returns c = bound_holds

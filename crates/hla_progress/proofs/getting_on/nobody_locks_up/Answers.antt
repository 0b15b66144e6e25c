use Rattle.hla_progress.proofs.GettingOn.Nobody.{nobody_locks_up}
use Rattle.hla_progress.proofs.getting_on.nobody_locks_up.Goals as goal

pub returns : goal.returns
returns c = nobody_locks_up

use Rattle.hla_progress.proofs.GettingOn.Nobody.{least_is_granted}
use Rattle.hla_progress.proofs.getting_on.each_least_is_granted.Goals as goal

pub returns : goal.returns
returns c = least_is_granted

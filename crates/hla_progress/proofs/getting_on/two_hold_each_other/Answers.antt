use Rattle.hla_progress.proofs.Holding.TwoZeros.{two_hold}
use Rattle.hla_progress.proofs.getting_on.two_hold_each_other.Goals as goal

pub returns : goal.returns
returns c = two_hold

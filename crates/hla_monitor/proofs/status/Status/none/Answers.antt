use Rattle.std.proofs.Common.{refl}
use Rattle.hla_monitor.specs.Counts.{status_of}
use Rattle.hla_monitor.proofs.status.Status.none.Goals as goal

pub returns : goal.returns
unfolding status_of
returns c = refl

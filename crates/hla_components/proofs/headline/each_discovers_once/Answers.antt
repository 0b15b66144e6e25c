use Rattle.hla_components.proofs.Discovered.Runs.{discovers_once}
use Rattle.hla_components.proofs.headline.each_discovers_once.Goals as goal

pub returns : goal.returns
returns c = λ catalogue before step between later f object first second. discovers_once catalogue before step between later f object first second

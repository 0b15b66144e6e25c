use Rattle.hla_components.proofs.Discovered.Runs.{discovers_first}
use Rattle.hla_components.proofs.headline.each_discovers_first.Goals as goal

pub returns : goal.returns
returns c = λ catalogue before step f k object gives speaks. discovers_first catalogue before step f k object gives speaks

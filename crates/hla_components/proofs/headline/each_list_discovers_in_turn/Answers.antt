use Rattle.hla_components.proofs.Discovered.Runs.{list_discovers_in_turn}
use Rattle.hla_components.proofs.headline.each_list_discovers_in_turn.Goals as goal

pub returns : goal.returns
returns c = λ s steps is. list_discovers_in_turn s steps is

use Rattle.hla_components.proofs.Refinement.LedTo.{list_lawful}
use Rattle.hla_components.proofs.headline.each_list_is_lawful.Goals as goal

pub returns : goal.returns
returns c = λ s steps is. list_lawful s steps is

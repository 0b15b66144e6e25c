use Rattle.hla_components.proofs.Refinement.Runs.{each_ahead}
use Rattle.hla_components.proofs.headline.nothing_is_in_the_past.Goals as goal

pub returns : goal.returns
returns c = λ catalogue steps step f. each_ahead catalogue steps step f

use Rattle.hla_components.proofs.Refinement.Runs.{each_safe}
use Rattle.hla_components.proofs.headline.each_federation_is_safe.Goals as goal

pub returns : goal.returns
returns c = λ catalogue steps. each_safe catalogue steps

use Rattle.hla_components.specs.Components.{new_components}
use Rattle.hla_components.proofs.Refinement.Runs.{is_run, inv_start}
use Rattle.hla_components.proofs.headline.headline.Goals as goal

pub returns : goal.returns
returns c = λ catalogue steps. is_run (new_components catalogue) steps (inv_start catalogue)

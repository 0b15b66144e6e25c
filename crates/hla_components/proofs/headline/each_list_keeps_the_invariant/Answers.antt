use Rattle.hla_components.proofs.Refinement.Runs.{each_inv}
use Rattle.hla_components.proofs.headline.each_list_keeps_the_invariant.Goals as goal

pub returns : goal.returns
returns c = λ catalogue steps. each_inv catalogue steps

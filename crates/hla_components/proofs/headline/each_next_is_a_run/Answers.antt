use Rattle.hla_components.proofs.Refinement.Executions.{runs_from_none}
use Rattle.hla_components.proofs.headline.each_next_is_a_run.Goals as goal

pub returns : goal.returns
returns c = λ records x given. runs_from_none records x given

use Rattle.hla_machine.proofs.Histories.Projections.{cut_to_one}
use Rattle.hla_machine.proofs.laws.each_execution_is_a_run.Goals as goal

pub returns : goal.returns
returns c = λ records x name run. cut_to_one records x name run

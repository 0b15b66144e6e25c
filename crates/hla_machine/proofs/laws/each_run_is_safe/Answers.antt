use Rattle.hla_machine.proofs.Upkeep.Runs.{run_safe}
use Rattle.hla_machine.proofs.laws.each_run_is_safe.Goals as goal

pub returns : goal.returns
returns c = λ catalogue happenings d run. run_safe catalogue happenings d run

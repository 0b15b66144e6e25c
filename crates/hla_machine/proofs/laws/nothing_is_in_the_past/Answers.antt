use Rattle.hla_machine.proofs.Upkeep.Ahead.{run_ahead}
use Rattle.hla_machine.proofs.laws.nothing_is_in_the_past.Goals as goal

pub returns : goal.returns
returns c = λ state happening f is. run_ahead state happening f is

use Rattle.hla_machine.proofs.Histories.Histories.{history_lawful}
use Rattle.hla_machine.proofs.laws.each_history_is_lawful.Goals as goal

pub returns : goal.returns
returns c = λ records x run. history_lawful records x run

use Rattle.hla_machine.proofs.Histories.Orders.{keys_rise}
use Rattle.hla_machine.proofs.laws.keys_rise.Goals as goal

pub returns : goal.returns
returns c = λ old h between new i f e x s t after first_row one first second. keys_rise old h between new i f e x s t after first_row one first second

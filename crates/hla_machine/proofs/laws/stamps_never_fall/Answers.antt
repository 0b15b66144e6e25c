use Rattle.hla_machine.proofs.Histories.Orders.{stamps_never_fall}
use Rattle.hla_machine.proofs.laws.stamps_never_fall.Goals as goal

pub returns : goal.returns
returns c = λ old h between new i f e x s t after first_row first second. stamps_never_fall old h between new i f e x s t after first_row first second

use Rattle.hla_machine.proofs.Copies.Deliveries.{heard_once}
use Rattle.hla_machine.proofs.laws.each_message_once.Goals as goal

pub returns : goal.returns
returns c = λ old h between new i f e later first second. heard_once old h between new i f e later first second

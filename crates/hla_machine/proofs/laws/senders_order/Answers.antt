use Rattle.hla_machine.proofs.Copies.Deliveries.{heard_in_order}
use Rattle.hla_machine.proofs.laws.senders_order.Goals as goal

pub returns : goal.returns
returns c = λ old h between new i f e x later first second same. heard_in_order old h between new i f e x later first second same

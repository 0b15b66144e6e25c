use Rattle.hla_machine.proofs.Histories.Stamps.{equal_stamps_in_order}
use Rattle.hla_machine.proofs.laws.equal_stamps_keep_order.Goals as goal

pub returns : goal.returns
returns c = λ old h between new i f e x s after first second same. equal_stamps_in_order old h between new i f e x s after first second same

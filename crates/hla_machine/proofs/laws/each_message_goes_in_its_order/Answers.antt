use Rattle.hla_machine.proofs.Copies.Ordering.{goes_in_its_order}
use Rattle.hla_machine.proofs.laws.each_message_goes_in_its_order.Goals as goal

pub returns : goal.returns
returns c = λ now f service. goes_in_its_order now.directory f service

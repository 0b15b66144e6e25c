use Rattle.hla_machine.proofs.Copies.Deliveries.{heard_from_another}
use Rattle.hla_machine.proofs.laws.nobody_hears_itself.Goals as goal

pub returns : goal.returns
returns c = λ state happening f e is hears. heard_from_another state happening f e is hears

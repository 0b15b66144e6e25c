use Rattle.hla_machine.proofs.Copies.Deliveries.{discovered_before}
use Rattle.hla_machine.proofs.laws.discovered_before.Goals as goal

pub returns : goal.returns
returns c = λ state happening f k object is gives speaks g. discovered_before state happening f k object is gives speaks g

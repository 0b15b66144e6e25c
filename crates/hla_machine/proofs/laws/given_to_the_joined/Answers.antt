use Rattle.hla_machine.proofs.Copies.Deliveries.{given_to_a_member}
use Rattle.hla_machine.proofs.laws.given_to_the_joined.Goals as goal

pub returns : goal.returns
returns c = λ state happening f k is gives. given_to_a_member state happening f k is gives

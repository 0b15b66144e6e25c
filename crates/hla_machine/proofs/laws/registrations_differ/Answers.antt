use Rattle.hla_machine.proofs.Histories.Registrations.{registered_apart}
use Rattle.hla_machine.proofs.laws.registrations_differ.Goals as goal

pub returns : goal.returns
returns c = λ old h between new i a b n p later first second. registered_apart old h between new i a b n p later first second

use Rattle.hla_machine.proofs.Copies.Requests.{asked_back_once}
use Rattle.hla_machine.proofs.laws.only_retracted_are_asked_back.Goals as goal

pub returns : goal.returns
returns c = λ catalogue earlier now h f e run may gives. asked_back_once catalogue earlier now h f e run may.0 gives

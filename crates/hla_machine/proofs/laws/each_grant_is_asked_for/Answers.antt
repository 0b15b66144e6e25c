use Rattle.hla_machine.proofs.Histories.Asked.{granted_as_asked}
use Rattle.hla_machine.proofs.laws.each_grant_is_asked_for.Goals as goal

pub returns : goal.returns
returns c = λ catalogue earlier now h f t run may is. granted_as_asked catalogue earlier now h f t run may.0 is

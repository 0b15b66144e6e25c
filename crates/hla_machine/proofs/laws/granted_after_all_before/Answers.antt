use Rattle.hla_machine.proofs.Histories.Grants.{grant_after_all}
use Rattle.hla_machine.proofs.laws.granted_after_all_before.Goals as goal

pub returns : goal.returns
returns c = λ old between new h f t q e s later grants con asks waits low. grant_after_all old between new h f t q e s later grants con asks waits low

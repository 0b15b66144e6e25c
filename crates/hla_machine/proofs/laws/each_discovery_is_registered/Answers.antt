use Rattle.hla_machine.proofs.Histories.Discoveries.{discovered_as_registered}
use Rattle.hla_machine.proofs.laws.each_discovery_is_registered.Goals as goal

pub returns : goal.returns
returns c = λ catalogue earlier now h f object class name run may gives. discovered_as_registered catalogue earlier now h f object class name run may.0 gives

use Rattle.hla_machine.proofs.Copies.Sending.{sent_waits}
use Rattle.hla_machine.proofs.laws.receivers_wait.Goals as goal

pub returns : goal.returns
returns c = λ state f service e o g is told. sent_waits state f service e o g is.0.1 told

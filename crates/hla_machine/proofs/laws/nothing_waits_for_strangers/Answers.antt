use Rattle.hla_machine.proofs.Points.Reached.{reached}
use Rattle.hla_machine.proofs.laws.nothing_waits_for_strangers.Goals as goal

pub returns : goal.returns
returns c = λ catalogue happenings now f run stranger. (reached catalogue happenings now run).kept.absent f stranger

use Rattle.hla_machine.proofs.Points.Dues.{run_due}
use Rattle.hla_machine.proofs.Points.Reached.{reached}
use Rattle.hla_machine.proofs.laws.each_is_told_in_turn.Goals as goal

pub returns : goal.returns
returns c = λ catalogue happenings now between then f run later member. run_due now between then f later (reached catalogue happenings now run).kept member

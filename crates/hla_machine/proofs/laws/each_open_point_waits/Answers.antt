use Rattle.hla_machine.proofs.Points.Awaited.{waits_for_some}
use Rattle.hla_machine.proofs.laws.each_open_point_waits.Goals as goal

pub returns : goal.returns
returns c = λ catalogue happenings now label run opened. waits_for_some catalogue happenings now label run opened

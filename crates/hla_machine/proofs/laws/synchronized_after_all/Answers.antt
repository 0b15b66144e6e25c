use Rattle.hla_machine.proofs.Points.Reached.{told_after_all}
use Rattle.hla_machine.proofs.laws.synchronized_after_all.Goals as goal

pub returns : goal.returns
returns c = λ catalogue happenings now h f label run allowed gives. told_after_all catalogue happenings now h f label run allowed.0 gives

use Rattle.hla_machine.proofs.Points.Reached.{achieved_by_all}
use Rattle.hla_machine.proofs.laws.closes_after_all.Goals as goal

pub returns : goal.returns
returns c = λ catalogue happenings now h label g run allowed closes member. achieved_by_all catalogue happenings now h label g run allowed.0 closes member

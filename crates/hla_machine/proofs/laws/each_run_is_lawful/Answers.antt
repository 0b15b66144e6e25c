use Rattle.hla_machine.proofs.Histories.Lawful.{each_lawful}
use Rattle.hla_machine.proofs.laws.each_run_is_lawful.Goals as goal

pub returns : goal.returns
returns c = λ start happenings end is run. each_lawful start happenings end is run

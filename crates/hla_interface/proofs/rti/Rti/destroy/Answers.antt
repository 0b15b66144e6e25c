use Rattle.std.proofs.Common.{subst}
use Rattle.hla_machine.specs.declared.step.Act.TheVariants as act
use Rattle.hla_callers.specs.Callers.{Office, HasAnswered, said, nothing}
use Rattle.hla_interface.proofs.Calls.{answered_as}
use Rattle.hla_interface.proofs.rti.Rti.destroy.Goals as goal

pub returns-clause-answered : goal.returns-clause-answered
returns-clause-answered g c =
    subst (λ (o : Office). HasAnswered o.own c.args.name act.Destroy (said nothing c.done_in.result) c.destroy.new.self) c.self.view_is
    (answered_as c.self.inside.seat c.destroy.new.self c.args.name act.Destroy c.destroy.result (said nothing c.done_in.result) c.done_in.ensures c.destroy.ensures.answered)

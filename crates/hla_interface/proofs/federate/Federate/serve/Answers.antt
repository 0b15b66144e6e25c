use Rattle.std.proofs.Common.{◌≡◌, refl, subst}
use Rattle.hla_machine.specs.declared.step.Act.TheVariants as act
use Rattle.hla_machine.specs.declared.step.Step.TheVariants.{Call}
use Rattle.hla_callers.specs.Callers.{FederateCaller, HasAnswered, IsServed}
use Rattle.hla_interface.proofs.federate.Federate.serve.Goals as goal

pub returns-clause-served : goal.returns-clause-served
unfolding IsServed
returns-clause-served g c =
    subst (λ (m : FederateCaller). (c.self.inside.execution ≡ m.execution) × (c.self.inside.federate ≡ m.federate)
    × HasAnswered m.caller m.execution (act.Step (Call m.federate c.args.service)) c.call.result c.call.new.self) c.self.view_is (refl, refl, c.call.ensures.answered)

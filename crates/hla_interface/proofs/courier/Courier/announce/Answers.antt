use Rattle.std.proofs.Common.{inl, refl}
use Rattle.hla_machine.specs.declared.step.Act.TheVariants as act
use Rattle.hla_machine.specs.declared.step.Step.TheVariants as step
use Rattle.hla_interface.proofs.Exchanges.{exchanged}
use Rattle.hla_interface.proofs.courier.Courier.announce.Goals as goal

pub invariant_of-self : goal.invariant_of-self
invariant_of-self g c = exchanged c.self.inside.seat c.call.new.self c.args.execution (act.Step (step.Announce c.args.federate)) c.call.result (inl (c.args.federate, refl)) c.call.ensures.answered c.self.invariant

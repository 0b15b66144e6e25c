use Rattle.std.proofs.Common.{inr, refl}
use Rattle.hla_machine.specs.declared.step.Act.TheVariants as act
use Rattle.hla_machine.specs.declared.step.Step.TheVariants as step
use Rattle.hla_interface.proofs.Exchanges.{exchanged}
use Rattle.hla_interface.proofs.courier.Courier.carry.Goals as goal

pub invariant_of-self : goal.invariant_of-self
invariant_of-self g c =
    exchanged c.self.inside.seat c.call.new.self c.args.execution (act.Step (step.Carry c.args.from c.args.to)) c.call.result (inr (c.args.from, c.args.to, refl)) c.call.ensures.answered c.self.invariant

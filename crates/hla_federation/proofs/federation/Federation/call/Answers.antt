use Rattle.hla_machine.specs.declared.step.Step.TheVariants as step
use Rattle.hla_federation.proofs.Steps.Answering.{does_step}
use Rattle.hla_federation.proofs.Steps.Sound.{ends_sound}
use Rattle.hla_federation.proofs.federation.Federation.call.Goals as goal

pub invariant_of-self : goal.invariant_of-self
invariant_of-self c = ends_sound c.self.inside.parts (step.Call c.args.federate c.args.service.now) c.self.invariant c.call.result c.call.new.self c.call.ensures.whole c.call.ensures.done

pub returns : goal.returns
returns c = rw (← c.self.view_is) (does_step c.self.inside.parts (step.Call c.args.federate c.args.service.now) c.self.invariant c.call.result c.call.new.self c.call.ensures.done)

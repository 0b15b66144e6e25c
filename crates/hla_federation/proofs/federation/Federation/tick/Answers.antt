use Rattle.hla_machine.specs.declared.step.Step.TheVariants as step
use Rattle.hla_machine.specs.declared.step.Answer.TheVariants as answer
use Rattle.hla_federation.specs.Steps.Answering.{answered_as}
use Rattle.hla_federation.proofs.Steps.Answering.{does_step}
use Rattle.hla_federation.proofs.Steps.Sound.{ends_sound}
use Rattle.hla_federation.proofs.federation.Federation.tick.Goals as goal

pub invariant_of-self : goal.invariant_of-self
invariant_of-self c = ends_sound c.self.inside.parts (step.Tick c.args.federate) c.self.invariant (answered_as answer.Ticked c.tick.result) c.tick.new.self c.tick.ensures.whole c.tick.ensures.done

pub returns : goal.returns
returns c = rw (← c.self.view_is) (does_step c.self.inside.parts (step.Tick c.args.federate) c.self.invariant (answered_as answer.Ticked c.tick.result) c.tick.new.self c.tick.ensures.done)

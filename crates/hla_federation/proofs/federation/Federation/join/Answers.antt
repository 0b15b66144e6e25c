use Rattle.hla_machine.specs.declared.step.Step.TheVariants as step
use Rattle.hla_machine.specs.declared.step.Answer.TheVariants as answer
use Rattle.hla_federation.specs.Steps.Answering.{answered_as}
use Rattle.hla_federation.proofs.Steps.Doing.{ends_chosen}
use Rattle.hla_federation.proofs.Steps.Answering.{does_step}
use Rattle.hla_federation.proofs.Steps.Sound.{ends_sound}
use Rattle.hla_federation.proofs.federation.Federation.join.Goals as goal

pub invariant_of-self : goal.invariant_of-self
invariant_of-self c = ends_sound c.self.inside.parts (step.Join c.args.name.now) c.self.invariant (answered_as answer.Federate c.join.result) c.join.new.self c.join.ensures.whole (ends_chosen c.self.inside.parts (step.Join c.args.name.now) (answered_as answer.Federate c.join.result) c.join.new.self c.join.ensures.done)

pub returns : goal.returns
returns c = rw (← c.self.view_is) (does_step c.self.inside.parts (step.Join c.args.name.now) c.self.invariant (answered_as answer.Federate c.join.result) c.join.new.self (ends_chosen c.self.inside.parts (step.Join c.args.name.now) (answered_as answer.Federate c.join.result) c.join.new.self c.join.ensures.done))

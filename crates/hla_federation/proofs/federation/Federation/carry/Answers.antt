use Rattle.hla_machine.specs.declared.step.Step.TheVariants as step
use Rattle.hla_machine.specs.declared.step.Answer.TheVariants as answer
use Rattle.hla_federation.specs.Steps.Answering.{answered_as}
use Rattle.hla_federation.proofs.Steps.Doing.{ends_chosen}
use Rattle.hla_federation.proofs.Steps.Answering.{does_step}
use Rattle.hla_federation.proofs.Steps.Sound.{ends_sound}
use Rattle.hla_federation.proofs.federation.Federation.carry.Goals as goal

pub invariant_of-self : goal.invariant_of-self
invariant_of-self c = ends_sound c.self.inside.parts (step.Carry c.args.from c.args.to) c.self.invariant (answered_as answer.Carried c.carry.result) c.carry.new.self c.carry.ensures.whole (ends_chosen c.self.inside.parts (step.Carry c.args.from c.args.to) (answered_as answer.Carried c.carry.result) c.carry.new.self c.carry.ensures.done)

pub returns : goal.returns
returns c = rw (← c.self.view_is) (does_step c.self.inside.parts (step.Carry c.args.from c.args.to) c.self.invariant (answered_as answer.Carried c.carry.result) c.carry.new.self (ends_chosen c.self.inside.parts (step.Carry c.args.from c.args.to) (answered_as answer.Carried c.carry.result) c.carry.new.self c.carry.ensures.done))

use Rattle.hla_federation.proofs.Steps.Sound.{ends_sound, ends_outcome, ends_state, ends_machine, ends_refused, ends_unchanged}
use Rattle.hla_federation.proofs.federation.Federation.step.Goals as goal

pub invariant_of-self : goal.invariant_of-self
invariant_of-self c = ends_sound c.self.inside.parts c.args.step.now c.self.invariant c.step.result c.step.new.self c.step.ensures.whole c.step.ensures.done

pub returns-clause-outcome : goal.returns-clause-outcome
returns-clause-outcome c = rw (← c.self.view_is) (ends_outcome c.self.inside.parts c.args.step.now c.self.invariant c.step.result c.step.new.self c.step.ensures.done)

pub returns-clause-state : goal.returns-clause-state
returns-clause-state c = rw (← c.self.view_is) (ends_state c.self.inside.parts c.args.step.now c.self.invariant c.step.result c.step.new.self c.step.ensures.done)

pub returns-clause-machine : goal.returns-clause-machine
returns-clause-machine c = rw (← c.self.view_is) (ends_machine c.self.inside.parts c.args.step.now c.self.invariant c.step.result c.step.new.self c.step.ensures.done)

pub returns-clause-refused : goal.returns-clause-refused
returns-clause-refused c = rw (← c.self.view_is) (ends_refused c.self.inside.parts c.args.step.now c.self.invariant c.step.result c.step.new.self c.step.ensures.done)

pub returns-clause-unchanged : goal.returns-clause-unchanged
returns-clause-unchanged c = rw (← c.self.view_is) (ends_unchanged c.self.inside.parts c.args.step.now c.self.invariant c.step.result c.step.new.self c.step.ensures.done)

-- The first block goes.
use Rattle.std.proofs.Common.{List, subst}
use Rattle.hla_base.specs.declared.content.Event.{Event}
use Rattle.hla_order_queues.specs.declared.key.EventKey.{EventKey}
use Rattle.hla_order_queues.proofs.UnderSeparators.JoinedLemmas.{IsTakenOut, taken_front}
use Rattle.hla_order_queues.proofs.blocks.Blocks.take_first.Goals as goal
use Rattle.hla_order_queues.proofs.blocks.Blocks.take_first.Goals.{After-take_first}

taken : (c : After-take_first) → IsTakenOut c.take_first.result c.self.inside.separators c.take_first.new.self
taken c = taken_front c.take_first.result c.self.inside.separators c.take_first.new.self c.self.invariant c.take_first.ensures

pub invariant_of-self : goal.invariant_of-self
invariant_of-self c = (taken c).left

pub returns-clause-events : goal.returns-clause-events
returns-clause-events c = (subst (λ (es : List (EventKey × List Event)). IsTakenOut c.take_first.result es c.take_first.new.self) c.self.view_is (taken c)).events

pub returns-clause-filled : goal.returns-clause-filled
returns-clause-filled c = (taken c).filled

pub returns-clause-below : goal.returns-clause-below
returns-clause-below c = (taken c).below

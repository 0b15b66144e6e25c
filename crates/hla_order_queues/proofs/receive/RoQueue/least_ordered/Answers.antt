-- Step by step the least so far and what is to come give the least of all.
use Rattle.std.proofs.Common.{sym, ◌∙◌, inl, inr, arith, ap}
use Rattle.hla_component_rules.specs.Queues.{least_ordered}
use Rattle.hla_order_queues.proofs.Events.QueueLemmas.{none_yet, least_taken, least_kept, least_of_none}
use Rattle.hla_order_queues.proofs.receive.RoQueue.least_ordered.Goals as goal
use Rattle.hla_order_queues.proofs.receive.RoQueue.least_ordered.Goals.{else-event-via-then-event+else-event-least, else-event-via-else-event}

pub loop-event-init : goal.loop-event-init
loop-event-init c = (
  omega arith,
  rw c.into_iter-event-iterator.ensures.into_iter_gives (none_yet _ ∙ ap least_ordered c.iter-event-items.ensures.rest ∙ ap (λ q. least_ordered q.events) c.self.view_is),
)

pub loop-event-preserved-then-event-least : goal.loop-event-preserved-then-event-least
loop-event-preserved-then-event-least c = (
  omega arith,
  least_taken _ c.in-Some.event.now _ _ c.if-event.true c.if-event-least.true c.in-Some.ensures.steps ∙ c.loop-event.invariant.1,
)

pub loop-event-preserved : goal.loop-event-preserved
loop-event-preserved c = (
  c.loop-event.invariant.0,
  elim c.else-event.branch [
    | else-event-via-then-event+else-event-least w ↦ least_kept _ c.in-Some.event.now _ _ (inr w.if-event-least.false) c.in-Some.ensures.steps ∙ c.loop-event.invariant.1
    | else-event-via-else-event w ↦ least_kept _ c.in-Some.event.now _ _ (inl w.if-event.false) c.in-Some.ensures.steps ∙ c.loop-event.invariant.1
  ],
)

pub returns : goal.returns
returns c = sym (least_of_none c.loop-event.least _ c.loop-event.invariant.0 c.in-None.ensures.steps.0) ∙ c.loop-event.invariant.1

-- The first event is that of the first block, which is filled again.
use Rattle.hla_order_queues.specs.Kept.{events_of}
use Rattle.hla_order_queues.proofs.UnderSeparators.KeptLemmas.{kept_taken}
use Rattle.hla_order_queues.proofs.ordered.Ordered.take_first.Goals as goal

pub invariant_of-self : goal.invariant_of-self
invariant_of-self c =
    (kept_taken c.in-Some.event c.self.inside.first c.take_first.new.self (events_of c.self.inside.later) c.fill.new.first (events_of c.fill.new.later) c.self.inside.count c.self.invariant.0 c.in-Some.ensures.first c.take_first.ensures.rest c.fill.ensures.same c.fill.ensures.filled, c.fill.ensures.below)

-- What is left is in order, and one fewer.
use Rattle.std.proofs.Common.{◌∙◌}
use Rattle.hla_order_queues.specs.Kept.{events_of}
use Rattle.hla_order_queues.proofs.UnderSeparators.KeptLemmas.{some_kept, kept_removed}
use Rattle.hla_order_queues.proofs.ordered.Ordered.remove_key.Goals as goal

pub overflow_sub-self : goal.overflow_sub-self
overflow_sub-self c = some_kept c.args.key.sender c.args.key.serial c.in-Some.event c.self.inside.first (events_of c.self.inside.later) c.self.inside.count c.self.invariant.0 c.in-Some.ensures.found

pub invariant_of-self : goal.invariant_of-self
invariant_of-self c =
    (kept_removed c.args.key.sender c.args.key.serial c.in-Some.event c.self.inside.first (events_of c.self.inside.later) c.fill.new.first (events_of c.fill.new.later) c.self.inside.count c.self.invariant.0 c.in-Some.ensures.found (c.fill.ensures.same ∙ c.take_key.ensures.rest) c.fill.ensures.filled, c.fill.ensures.below)

-- All of the first block are below the bound, or the count ends there.
use Rattle.std.proofs.Common.{◌≡◌, ◌+◌, ◌++◌, length-append, ap, subst, arith}
use Rattle.std.specs.List.{prefix_len}
use Rattle.hla_order_queues.specs.Moving.{is_moved, IsRising}
use Rattle.hla_order_queues.specs.Kept.{events_of}
use Rattle.hla_order_queues.proofs.Events.OrderLemmas.{IsRising-ordered}
use Rattle.hla_order_queues.proofs.UnderSeparators.StepLemmas.{prefix_len-parts, prefix_len-le}
use Rattle.hla_order_queues.proofs.ordered.Ordered.count_below.Goals as goal

pub count_below-requires : goal.count_below-requires
count_below-requires c = omega (arith, c.self.invariant.0.counted, c.self.invariant.0.small, length-append c.self.inside.first (events_of c.self.inside.later))

pub overflow_add-result : goal.overflow_add-result
overflow_add-result c =
    omega (arith, c.self.invariant.0.counted, c.self.invariant.0.small, length-append c.self.inside.first (events_of c.self.inside.later), prefix_len-le (is_moved c.args.bound) c.self.inside.first, prefix_len-le (is_moved c.args.bound) (events_of c.self.inside.later))

pub returns-then-count-len-clause-count : goal.returns-then-count-len-clause-count
returns-then-count-len-clause-count c =
    let part : prefix_len (is_moved c.args.bound) (c.self.inside.first ++ (events_of c.self.inside.later)) ≡ prefix_len (is_moved c.args.bound) c.self.inside.first = (prefix_len-parts (is_moved c.args.bound) c.self.inside.first (events_of c.self.inside.later)).1 (omega arith) in
    let all = ap (prefix_len (is_moved c.args.bound)) c.self.view_is in
    omega (arith, part, all)

pub returns-then-count-len-clause-rising : goal.returns-then-count-len-clause-rising
returns-then-count-len-clause-rising c = subst IsRising c.self.view_is (IsRising-ordered (c.self.inside.first ++ (events_of c.self.inside.later)) c.self.invariant.0.ordered)

pub returns-else-count-len-clause-count : goal.returns-else-count-len-clause-count
returns-else-count-len-clause-count c =
    let parts : prefix_len (is_moved c.args.bound) (c.self.inside.first ++ (events_of c.self.inside.later)) ≡ prefix_len (is_moved c.args.bound) c.self.inside.first + prefix_len (is_moved c.args.bound) (events_of c.self.inside.later) = (prefix_len-parts (is_moved c.args.bound) c.self.inside.first (events_of c.self.inside.later)).0 (omega arith) in
    let all = ap (prefix_len (is_moved c.args.bound)) c.self.view_is in
    omega (arith, parts, all)

pub returns-else-count-len-clause-rising : goal.returns-else-count-len-clause-rising
returns-else-count-len-clause-rising c = subst IsRising c.self.view_is (IsRising-ordered (c.self.inside.first ++ (events_of c.self.inside.later)) c.self.invariant.0.ordered)

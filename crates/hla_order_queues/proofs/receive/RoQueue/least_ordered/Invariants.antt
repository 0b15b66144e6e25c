-- The least so far and what is to come give the least of all.
use Rattle.std.proofs.Common.{◌≡◌, ◌≤◌, min}
use Rattle.std.specs.VecDeque.Iter.{deque_iter_rest}
use Rattle.hla_base.specs.Tables.{forever}
use Rattle.hla_component_rules.specs.Queues.{least_ordered}
use Rattle.hla_order_queues.proofs.receive.RoQueue.least_ordered.Given as goal

abbrev pub invariant-loop-event : goal.invariant-loop-event
invariant-loop-event l =
    (l.least ≤ forever) × (min l.least (least_ordered (deque_iter_rest l.event-iterator)) ≡ least_ordered l.self.events)

-- The same is noted, and the list has grown as far as was counted.
use Rattle.std.proofs.Common.{◌≡◌, ◌≤◌, length}
use Rattle.hla_order_queues.specs.declared.key.EventName.{EventName}
use Rattle.hla_order_queues.specs.Names.{noted_at}
use Rattle.hla_order_queues.proofs.names.reach.Given as goal

abbrev pub invariant-loop : goal.invariant-loop
invariant-loop l = record {
  same : (n : EventName) → noted_at l.rising.items n ≡ noted_at l.initial.rising.items n;
  reached : l.counter ≤ length l.rising.items;
}

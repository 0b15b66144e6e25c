-- As many as were counted go, one after another.
use Rattle.std.proofs.Common.{◌≡◌, ◌+◌, ◌≤◌, ◌++◌, take, drop}
use Rattle.hla_order_queues.proofs.tso.TsoQueue.move_below.Given as goal

abbrev pub invariant-loop : goal.invariant-loop
invariant-loop l = record {
  moved : l.received.events ≡ l.initial.received.events ++ take l.counter l.initial.self;
  left : l.self ≡ drop l.counter l.initial.self;
  room : l.count ≤ l.received.room + l.counter;
}

-- What was put and what is ahead make all.
use Rattle.std.proofs.Common.{◌≡◌, ◌+◌, ◌≤◌, ◌++◌, map, take, vec_len, vec_capacity}
use Rattle.hla_component_rules.specs.Queues.{handles_of}
use Rattle.hla_order_queues.specs.Kept.{joined, events_of}
use Rattle.hla_order_queues.specs.Places.{block_in, blocks_at}
use Rattle.hla_order_queues.proofs.separators.put_handles_of.Given as goal

abbrev pub invariant-loop-place : goal.invariant-loop-place
invariant-loop-place l = record {
  put :
      l.handles.items ++ handles_of (take l.left (joined (map (block_in l.blocks) l.place-iterator))) ≡ l.initial.handles.items ++ handles_of (take l.count (events_of (blocks_at l.blocks l.places.entries)));
  len : vec_len l.handles + l.left ≤ vec_len l.initial.handles + l.count;
  capacity : vec_capacity l.handles ≡ vec_capacity l.initial.handles;
}

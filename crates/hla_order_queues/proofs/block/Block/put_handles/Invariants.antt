-- As many as were gone through are put.
use Rattle.std.proofs.Common.{◌≡◌, ◌+◌, ◌≤◌, ◌++◌, take, vec_len, vec_capacity}
use Rattle.hla_component_rules.specs.Queues.{handles_of}
use Rattle.hla_order_queues.proofs.block.Block.put_handles.Given as goal

abbrev pub invariant-loop-i : goal.invariant-loop-i
invariant-loop-i l = record {
  put : l.handles.items ≡ l.initial.handles.items ++ handles_of (take l.i l.self);
  len : vec_len l.handles ≤ vec_len l.initial.handles + l.i;
  capacity : vec_capacity l.handles ≡ vec_capacity l.initial.handles;
}

-- What was counted and what is ahead make all.
use Rattle.std.proofs.Common.{◌≡◌, ◌+◌, map}
use Rattle.std.specs.List.{prefix_len}
use Rattle.hla_order_queues.specs.Moving.{is_moved}
use Rattle.hla_order_queues.specs.Kept.{joined, events_of}
use Rattle.hla_order_queues.specs.Places.{block_in, blocks_at}
use Rattle.hla_order_queues.proofs.separators.count_of.Given as goal

abbrev pub invariant-loop-place : goal.invariant-loop-place
invariant-loop-place l =
    l.count + prefix_len (is_moved l.bound) (joined (map (block_in l.blocks) l.place-iterator)) ≡ prefix_len (is_moved l.bound) (events_of (blocks_at l.blocks l.places.entries))

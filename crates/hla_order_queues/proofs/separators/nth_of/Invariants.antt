-- The event is still ahead.
use Rattle.std.proofs.Common.{◌≡◌, map}
use Rattle.std.specs.List.{slice_get}
use Rattle.hla_order_queues.specs.Kept.{joined, events_of}
use Rattle.hla_order_queues.specs.Places.{block_in, blocks_at}
use Rattle.hla_order_queues.proofs.separators.nth_of.Given as goal

abbrev pub invariant-loop-place : goal.invariant-loop-place
invariant-loop-place l =
    slice_get (joined (map (block_in l.blocks) l.place-iterator)) l.left ≡ slice_get (events_of (blocks_at l.blocks l.places.entries)) l.i

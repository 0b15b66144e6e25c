-- The event is in the next block, or behind it.
use Rattle.std.proofs.Common.{◌≤◌, map, sym, ap, ◌∙◌, arith}
use Rattle.std.specs.List.{slice_get}
use Rattle.hla_order_queues.specs.Kept.{joined, events_of}
use Rattle.hla_order_queues.specs.Places.{block_in, blocks_at}
use Rattle.hla_order_queues.proofs.UnderSeparators.PlacesLemmas.{values_in}
use Rattle.hla_order_queues.proofs.UnderSeparators.StepLemmas.{next_in, next_none, nothing_in, within_block, passed_block, nothing_at}
use Rattle.hla_order_queues.proofs.separators.nth_of.Goals as goal

pub loop-place-init : goal.loop-place-init
loop-place-init c =
    let source = c.into_iter-place-iterator.ensures.into_iter_gives ∙ c.values-place-items.ensures.rest in
    ap (λ ps. slice_get (joined (map (block_in c.args.blocks.now) ps)) c.args.i) source ∙ ap (λ bs. slice_get (joined bs) c.args.i) (sym (values_in c.args.blocks.now c.args.places.now.entries))

pub loop-place-preserved-in_default : goal.loop-place-preserved-in_default
loop-place-preserved-in_default c =
    ap (λ zs. slice_get zs c.loop-place.left) (sym (next_none c.args.blocks.now c.loop-place.place-iterator c.next.new.self c.in-Some.place.now c.in-Some.ensures.steps c.in_default.ensures)) ∙ c.loop-place.invariant

pub returns-then-left-len : goal.returns-then-left-len
returns-then-left-len c =
    c.nth.ensures ∙ within_block (map (block_in c.args.blocks.now) c.loop-place.place-iterator) (map (block_in c.args.blocks.now) c.next.new.self) c.in-Some-get.block.now c.loop-place.left c.len.result (slice_get (events_of (blocks_at c.args.blocks.now c.args.places.now.entries)) c.args.i) (next_in c.args.blocks.now c.loop-place.place-iterator c.next.new.self c.in-Some.place.now c.in-Some-get.block.now c.in-Some.ensures.steps c.in-Some-get.ensures) c.len.ensures c.if-left-len.true c.loop-place.invariant

pub loop-place-preserved : goal.loop-place-preserved
loop-place-preserved c =
    let past : c.len-left.result ≤ c.loop-place.left = omega arith in
    passed_block (map (block_in c.args.blocks.now) c.loop-place.place-iterator) (map (block_in c.args.blocks.now) c.next.new.self) c.in-Some-get.block.now c.loop-place.left c.len-left.result (slice_get (events_of (blocks_at c.args.blocks.now c.args.places.now.entries)) c.args.i) (next_in c.args.blocks.now c.loop-place.place-iterator c.next.new.self c.in-Some.place.now c.in-Some-get.block.now c.in-Some.ensures.steps c.in-Some-get.ensures) c.len-left.ensures past c.loop-place.invariant

pub returns : goal.returns
returns c =
    nothing_at (map (block_in c.args.blocks.now) c.loop-place.place-iterator) c.loop-place.left (slice_get (events_of (blocks_at c.args.blocks.now c.args.places.now.entries)) c.args.i) (nothing_in c.args.blocks.now c.loop-place.place-iterator c.in-None.ensures.steps.0) c.loop-place.invariant

-- A block of which all are below the bound is counted whole, and the first other one ends the count.
use Rattle.std.proofs.Common.{◌≡◌, map, sym, ap, ◌∙◌, arith}
use Rattle.std.specs.List.{prefix_len}
use Rattle.hla_order_queues.specs.Moving.{is_moved}
use Rattle.hla_order_queues.specs.Kept.{joined, events_of}
use Rattle.hla_order_queues.specs.Places.{block_in, blocks_at}
use Rattle.hla_order_queues.proofs.UnderSeparators.PlacesLemmas.{values_in}
use Rattle.hla_order_queues.proofs.UnderSeparators.StepLemmas.{Counted, counted_block, prefix_len-le, next_in, next_none, nothing_in, none_left}
use Rattle.hla_order_queues.proofs.separators.count_of.Goals as goal
use Rattle.hla_order_queues.proofs.separators.count_of.Goals.{After-count_below-here}

pub loop-place-init : goal.loop-place-init
loop-place-init c =
    let source = c.into_iter-place-iterator.ensures.into_iter_gives ∙ c.values-place-items.ensures.rest in
    let all = ap (λ ps. prefix_len (is_moved c.args.bound) (joined (map (block_in c.args.blocks.now) ps))) source ∙ ap (λ bs. prefix_len (is_moved c.args.bound) (joined bs)) (sym (values_in c.args.blocks.now c.args.places.now.entries)) in
    omega (arith, all)

pub loop-place-preserved-in_default : goal.loop-place-preserved-in_default
loop-place-preserved-in_default c =
    let same = ap (prefix_len (is_moved c.args.bound)) (next_none c.args.blocks.now c.loop-place.place-iterator c.next.new.self c.in-Some.place.now c.in-Some.ensures.steps c.in_default.ensures) in
    omega (arith, same, c.loop-place.invariant)

counted : (c : After-count_below-here) → Counted c.loop-place.count c.count_below-here.result (prefix_len (is_moved c.args.bound) (events_of (blocks_at c.args.blocks.now c.args.places.now.entries))) (is_moved c.args.bound) c.in-Some-get.block.now (map (block_in c.args.blocks.now) c.next.new.self)
counted c =
    counted_block (is_moved c.args.bound) (map (block_in c.args.blocks.now) c.loop-place.place-iterator) (map (block_in c.args.blocks.now) c.next.new.self) c.in-Some-get.block.now c.loop-place.count c.count_below-here.result (prefix_len (is_moved c.args.bound) (events_of (blocks_at c.args.blocks.now c.args.places.now.entries))) (next_in c.args.blocks.now c.loop-place.place-iterator c.next.new.self c.in-Some.place.now c.in-Some-get.block.now c.in-Some.ensures.steps c.in-Some-get.ensures) c.count_below-here.ensures c.loop-place.invariant

pub overflow_add-count : goal.overflow_add-count
overflow_add-count c = omega (arith, (counted c).bound, prefix_len-le (is_moved c.args.bound) (events_of (blocks_at c.args.blocks.now c.args.places.now.entries)), c.requires)

pub returns-then-here-len : goal.returns-then-here-len
returns-then-here-len c = (counted (goal.at.returns-then-here-len c).After-count_below-here).some (omega arith)

pub loop-place-preserved : goal.loop-place-preserved
loop-place-preserved c = (counted (goal.at.loop-place-preserved c).After-count_below-here).all (omega arith)

pub returns : goal.returns
returns c =
    let none : prefix_len (is_moved c.args.bound) (joined (map (block_in c.args.blocks.now) c.loop-place.place-iterator)) ≡ 0 =
    ap (prefix_len (is_moved c.args.bound)) (none_left (map (block_in c.args.blocks.now) c.loop-place.place-iterator) (nothing_in c.args.blocks.now c.loop-place.place-iterator c.in-None.ensures.steps.0)) in
    omega (arith, none, c.loop-place.invariant)

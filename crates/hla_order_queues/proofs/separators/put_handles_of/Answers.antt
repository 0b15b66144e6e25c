-- The next block's handles are put, until as many are as were asked for.
use Rattle.std.proofs.Common.{◌≡◌, ◌++◌, ◌-◌, min, map, length, take, sym, ap, ◌∙◌, arith, refl}
use Rattle.hla_component_rules.specs.Queues.{handles_of}
use Rattle.hla_order_queues.specs.Kept.{joined, events_of}
use Rattle.hla_order_queues.specs.Places.{block_in, blocks_at}
use Rattle.hla_order_queues.proofs.UnderSeparators.PlacesLemmas.{values_in}
use Rattle.hla_order_queues.proofs.UnderSeparators.StepLemmas.{next_in, next_none, nothing_in, more_handles, handles_done, handles_ended}
use Rattle.hla_order_queues.proofs.separators.put_handles_of.Goals as goal
use Rattle.hla_order_queues.proofs.separators.put_handles_of.Goals.{After-put_handles}

pub loop-place-init : goal.loop-place-init
loop-place-init c =
    let source = c.into_iter-place-iterator.ensures.into_iter_gives ∙ c.values-place-items.ensures.rest in
    record {
      put =
          ap (λ ps. c.args.handles.now.items ++ handles_of (take c.args.count (joined (map (block_in c.args.blocks.now) ps)))) source
          ∙ ap (λ bs. c.args.handles.now.items ++ handles_of (take c.args.count (joined bs))) (sym (values_in c.args.blocks.now c.args.places.now.entries));
      len = omega arith;
      capacity = refl;
    }

pub loop-place-preserved-in_default : goal.loop-place-preserved-in_default
loop-place-preserved-in_default c = record {
  put =
      ap (λ zs. c.loop-place.handles.items ++ handles_of (take c.loop-place.left zs)) (sym (next_none c.args.blocks.now c.loop-place.place-iterator c.next.new.self c.in-Some.place.now c.in-Some.ensures.steps c.in_default.ensures)) ∙ c.loop-place.invariant.put;
  len = c.loop-place.invariant.len;
  capacity = c.loop-place.invariant.capacity;
}

put : (c : After-put_handles) → c.put_handles.new.handles.items ++ handles_of (take (c.loop-place.left - c.min-here.result) (joined (map (block_in c.args.blocks.now) c.next.new.self))) ≡ c.args.handles.now.items ++ handles_of (take c.args.count (events_of (blocks_at c.args.blocks.now c.args.places.now.entries)))
put c =
    let size : c.min-here.result ≡ min c.loop-place.left (length c.in-Some-get.block.now) = omega arith in
    more_handles (map (block_in c.args.blocks.now) c.loop-place.place-iterator) (map (block_in c.args.blocks.now) c.next.new.self) c.in-Some-get.block.now c.loop-place.handles.items c.put_handles.new.handles.items (c.args.handles.now.items ++ handles_of (take c.args.count (events_of (blocks_at c.args.blocks.now c.args.places.now.entries)))) c.loop-place.left c.min-here.result (next_in c.args.blocks.now c.loop-place.place-iterator c.next.new.self c.in-Some.place.now c.in-Some-get.block.now c.in-Some.ensures.steps c.in-Some-get.ensures) size c.put_handles.ensures.put c.loop-place.invariant.put

pub returns-then-left-eq0-clause-put : goal.returns-then-left-eq0-clause-put
returns-then-left-eq0-clause-put c =
    handles_done (map (block_in c.args.blocks.now) c.next.new.self) c.put_handles.new.handles.items (c.args.handles.now.items ++ handles_of (take c.args.count (events_of (blocks_at c.args.blocks.now c.args.places.now.entries)))) (c.loop-place.left - c.min-here.result) c.if-left-eq0.true (put (goal.at.returns-then-left-eq0-clause-put c).After-put_handles)

pub loop-place-preserved : goal.loop-place-preserved
loop-place-preserved c = record {
  put = put (goal.at.loop-place-preserved c).After-put_handles;
  len = omega arith;
  capacity = c.put_handles.ensures.capacity ∙ c.loop-place.invariant.capacity;
}

pub returns-clause-put : goal.returns-clause-put
returns-clause-put c =
    handles_ended (map (block_in c.args.blocks.now) c.loop-place.place-iterator) c.loop-place.handles.items (c.args.handles.now.items ++ handles_of (take c.args.count (events_of (blocks_at c.args.blocks.now c.args.places.now.entries)))) c.loop-place.left (nothing_in c.args.blocks.now c.loop-place.place-iterator c.in-None.ensures.steps.0) c.loop-place.invariant.put

-- The event goes into the block to which one search by separators leads.
use Rattle.std.proofs.Common.{refl, ap, subst, sym, ◌∙◌, arith}
use Rattle.hla_order_queues.specs.declared.key.EventKey.{EventKey}
use Rattle.hla_order_queues.specs.Kept.{set_block, AreAfter}
use Rattle.hla_order_queues.proofs.UnderSeparators.PlacesLemmas.{none_placed, found_at, now_is}
use Rattle.hla_order_queues.proofs.UnderSeparators.PutLemmas.{block_ordered, kept_block}
use Rattle.hla_order_queues.proofs.separators.Separators.place.Goals as goal
use Rattle.hla_order_queues.proofs.separators.Separators.place.Goals.{in-Ok, in-Err}

pub returns-in_default : goal.returns-in_default
returns-in_default c = (record { event = refl; unchanged = refl }, subst (λ (k : EventKey). AreAfter k c.args.self.now) c.of-key.ensures (subst (AreAfter c.of-key.result) c.self.view_is (none_placed c.self.inside.blocks c.of-key.result c.self.inside.places.entries (sym (c.range.ensures.between tt) ∙ c.in_default.ensures.steps.0))))

pub returns-then-len-full : goal.returns-then-len-full
returns-then-len-full c =
    let found = found_at c.self.inside.blocks c.args.event c.of-key.result c.in-Some.field-0-0.now c.in-Some.place.now c.in-Some-get_mut.block.now c.next_back.new.self c.self.inside.places.entries c.args.self.now (sym (c.range.ensures.between tt) ∙ c.in-Some.ensures.steps) c.range.ensures.ordered c.self.invariant c.self.view_is c.of-key.ensures c.in-Some-get_mut.ensures.value in
    let now = now_is c.in-Some.field-0-0.now c.in-Some.place.now c.in-Some-get_mut.block.now c.self.invariant c.self.view_is found.at in
    let same = now ∙ kept_block c.in-Some.field-0-0.now c.args.self.now c.in-Some-get_mut.block.now found.place.at found.there in
    (record { event = refl; unchanged = same }, record { separator = c.in-Some.field-0-0.now; block = c.in-Some-get_mut.block.now; place = found.place; there = found.there }, omega (arith, c.len.ensures, c.if-len-full.true))

pub insert-requires : goal.insert-requires
insert-requires c =
    let found = found_at c.self.inside.blocks c.args.event c.of-key.result c.in-Some.field-0-0.now c.in-Some.place.now c.in-Some-get_mut.block.now c.next_back.new.self c.self.inside.places.entries c.args.self.now (sym (c.range.ensures.between tt) ∙ c.in-Some.ensures.steps) c.range.ensures.ordered c.self.invariant c.self.view_is c.of-key.ensures c.in-Some-get_mut.ensures.value in
    block_ordered c.in-Some.field-0-0.now c.args.self.now c.in-Some-get_mut.block.now found.place.at c.requires found.there

pub returns : goal.returns
returns c =
    let found = found_at c.self.inside.blocks c.args.event c.of-key.result c.in-Some.field-0-0.now c.in-Some.place.now c.in-Some-get_mut.block.now c.next_back.new.self c.self.inside.places.entries c.args.self.now (sym (c.range.ensures.between tt) ∙ c.in-Some.ensures.steps) c.range.ensures.ordered c.self.invariant c.self.view_is c.of-key.ensures c.in-Some-get_mut.ensures.value in
    let now = now_is c.in-Some.field-0-0.now c.in-Some.place.now c.insert.new.self c.self.invariant c.self.view_is found.at in
    elim c.match-insert.branch [
      | in-Ok w ↦
          rw w.result-is (record {
            home = record { separator = c.in-Some.field-0-0.now; block = c.in-Some-get_mut.block.now; place = found.place; there = found.there };
            room = omega (arith, c.len.ensures, c.if-len-full.false);
            now = now ∙ ap (set_block c.in-Some.field-0-0.now c.args.self.now) w.in-Ok.ensures.ok;
          })
      | in-Err w ↦
          rw w.result-is (record {
            event = w.in-Err.ensures.err;
            unchanged = now ∙ ap (set_block c.in-Some.field-0-0.now c.args.self.now) w.in-Err.ensures.unchanged ∙ kept_block c.in-Some.field-0-0.now c.args.self.now c.in-Some-get_mut.block.now found.place.at found.there;
          })
    ]

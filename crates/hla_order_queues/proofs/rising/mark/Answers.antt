-- The stamp that was found is in the note at the place.
use Rattle.std.proofs.Common.{◌≡◌, true, is_some, sym, ◌∙◌, arith}
use Rattle.hla_order_queues.proofs.ByName.RisingLemmas.{place_within, marked_at}
use Rattle.hla_order_queues.proofs.rising.mark.Goals as goal

pub index_mut-requires : goal.index_mut-requires
index_mut-requires c =
    let some : is_some c.stamp_at-stamp.result ≡ true = sym c.is_some.ensures ∙ c.if-is_some.true in
    let lt = place_within c.args.serial c.args.notes.now.items c.place_of-place.result c.stamp_at-stamp.result c.requires c.place_of-place.ensures c.stamp_at-stamp.ensures some in
    omega (arith, lt, c.args.notes.now.ok.0)

pub returns-then-is_some : goal.returns-then-is_some
returns-then-is_some c =
    let some : is_some c.stamp_at-stamp.result ≡ true = sym c.is_some.ensures ∙ c.if-is_some.true in
    marked_at c.args.serial c.args.notes.now.items c.place_of-place.result c.stamp_at-stamp.result c.requires c.place_of-place.ensures c.stamp_at-stamp.ensures some

-- What stands at the place that the index gives has the name, and no other has it. What the index does not have stands in the tail.
use Rattle.std.proofs.Common.{◌≡◌, List, Some, None, true, false, take, subst, sym, ◌∙◌}
use Rattle.std.specs.List.{position, slice_get}
use Rattle.std.specs.Option.{option_map_or}
use Rattle.hla_bags.specs.declared.bag.Waiting.{Waiting}
use Rattle.hla_bags.specs.Bags.{is_of, waiting_at}
use Rattle.hla_bags.specs.Indexes.{delivery_at}
use Rattle.hla_bags.proofs.Bags.Places.{stands_there, undelivered}
use Rattle.hla_bags.proofs.Indexes.Indexing.{head_of}
use Rattle.hla_bags.proofs.bag.Bag.place_among_many.Goals as goal

pub returns-in-Some-place_of : goal.returns-in-Some-place_of
returns-in-Some-place_of c =
    let g = c.args.event.sender in
    let m = c.args.event.serial in
    let place = c.in-Some-place_of.place in
    let there = subst (λ (ws : List Waiting). option_map_or (is_of g m) (slice_get ws place) false ≡ true) c.as_slice-waiting.ensures (sym c.stands_at.ensures ∙ c.if-stands_at.true) in
    subst (λ (ws : List Waiting). Some place ≡ position (is_of g m) ws) c.self.view_is (sym (stands_there c.self.inside.waiting g m c.self.invariant.apart place there))

pub returns-in-None-place_of : goal.returns-in-None-place_of
returns-in-None-place_of c = subst (λ (ws : List Waiting). c.scan_from.result ≡ position (is_of c.args.event.sender c.args.event.serial) ws) (c.as_slice-waiting.ensures ∙ c.self.view_is) c.scan_from.ensures

pub scan_from-requires-clause-none : goal.scan_from-requires-clause-none
scan_from-requires-clause-none c =
    let g = c.args.event.sender in
    let m = c.args.event.serial in
    let k = c.self.inside.indexing.count in
    let ws = c.self.inside.waiting in
    let known = head_of ws c.self.inside.indexing c.in-Some.index c.self.invariant c.in-Some.is in
    let none = undelivered (take k ws) g m (c.in-None-place_of.ensures (delivery_at (take k ws)) known) in
    subst (λ (vs : List Waiting). waiting_at (take k vs) g m ≡ None) (sym c.as_slice-waiting.ensures) none

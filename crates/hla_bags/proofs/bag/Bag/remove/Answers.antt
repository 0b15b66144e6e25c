-- Of few messages one is taken out at its place.
use Rattle.std.proofs.Common.{◌≡◌, List, Some, None, ap, subst, sym, ◌∙◌, rules}
use Rattle.std.specs.List.{position}
use Rattle.hla_base.specs.Tables.{upd2}
use Rattle.hla_bags.specs.declared.bag.Waiting.{Waiting}
use Rattle.hla_bags.specs.Bags.{is_of, waiting_at}
use Rattle.hla_bags.specs.Indexes.{IsIndexingOf}
use Rattle.hla_bags.proofs.Indexes.Indexing.{kept_less_found}
use Rattle.hla_bags.proofs.Bags.Places.{removed_there, found_none, unwritten}
use Rattle.hla_bags.proofs.bag.Bag.remove.Goals as goal

pub returns-in-Some-clause-table : goal.returns-in-Some-clause-table
returns-in-Some-clause-table c =
    let ws = c.self.inside.waiting in
    let g = c.args.event.sender in
    let m = c.args.event.serial in
    let there = subst (λ (vs : List Waiting). Some c.in-Some.at ≡ position (is_of g m) vs) c.as_slice.ensures c.in-Some.ensures in
    let now = removed_there ws g m c.in-Some.at c.self.invariant.apart there c.remove_or_cut.new.self c.remove_or_cut.ensures in
    now.table ∙ ap (λ (vs : List Waiting). upd2 (waiting_at vs) g m None) c.self.view_is

pub returns-in_default-clause-table : goal.returns-in_default-clause-table
returns-in_default-clause-table c =
    let ws = c.self.inside.waiting in
    let g = c.args.event.sender in
    let m = c.args.event.serial in
    let none = subst (λ (vs : List Waiting). None ≡ position (is_of g m) vs) c.as_slice.ensures c.in_default.ensures in
    subst (λ (vs : List Waiting). waiting_at vs ≡ upd2 (waiting_at vs) g m None) c.self.view_is (unwritten (waiting_at ws) g m (found_none ws g m none))

pub invariant_of-self : goal.invariant_of-self
invariant_of-self c =
    let ws = c.self.inside.waiting in
    let g = c.args.event.sender in
    let m = c.args.event.serial in
    let there = subst (λ (vs : List Waiting). Some c.in-Some.at ≡ position (is_of g m) vs) c.as_slice.ensures c.in-Some.ensures in
    let none : c.self.inside.indexing.index ≡ None = c.is_idle.ensures (search rules) in
    subst (λ (vs : List Waiting). IsIndexingOf vs c.self.inside.indexing) (sym c.remove_or_cut.ensures) (kept_less_found ws c.self.inside.indexing c.in-Some.at g m c.self.invariant none there)

pub returns-in-Some-clause-apart : goal.returns-in-Some-clause-apart
returns-in-Some-clause-apart c = let kept = invariant_of-self c in kept.apart

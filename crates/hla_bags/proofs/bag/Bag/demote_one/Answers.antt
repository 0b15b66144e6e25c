-- The message is demoted at its place.
use Rattle.std.proofs.Common.{◌≡◌, List, Some, None, get_or, subst, ◌∙◌, rules}
use Rattle.std.specs.List.{position}
use Rattle.hla_bags.specs.declared.bag.Waiting.{Waiting}
use Rattle.hla_bags.specs.Bags.{is_of, AreApart, ordered_stamp}
use Rattle.hla_bags.proofs.Bags.Places.{demoted_at, none_demoted_one, found_none, unmoved}
use Rattle.hla_bags.proofs.bag.Bag.demote_one.Goals as goal

pub returns-then-is_some-clause-table : goal.returns-then-is_some-clause-table
returns-then-is_some-clause-table c =
    let g = c.args.event.sender in
    let m = c.args.event.serial in
    let here = subst (λ (vs : List Waiting). Some c.in-Some.place ≡ position (is_of g m) vs) (c.as_slice-waiting.ensures ∙ c.self.view_is) c.in-Some.ensures in
    let w = c.index-waiting-place.result in
    let now = demoted_at c.args.event c.args.self.now c.in-Some.place w (subst AreApart c.self.view_is c.self.invariant.apart) here c.demote_at.new.self (c.demote_at.ensures.written w) in
    now.table

pub returns-else-is_some-clause-table : goal.returns-else-is_some-clause-table
returns-else-is_some-clause-table c =
    let g = c.args.event.sender in
    let m = c.args.event.serial in
    let w = c.index-waiting-place.result in
    let place = c.in-Some.place in
    let same = c.as_slice-waiting.ensures ∙ c.self.view_is in
    let here = subst (λ (vs : List Waiting). Some place ≡ position (is_of g m) vs) same c.in-Some.ensures in
    let read = subst (λ (vs : List Waiting). w ≡ get_or vs place w) same c.index-waiting-place.is in
    let none : ordered_stamp w.delivery ≡ None = search rules in
    unmoved c.args.event c.args.self.now place w (subst AreApart c.self.view_is c.self.invariant.apart) here read none

pub returns-in_default-clause-table : goal.returns-in_default-clause-table
returns-in_default-clause-table c =
    let g = c.args.event.sender in
    let m = c.args.event.serial in
    let none = subst (λ (vs : List Waiting). None ≡ position (is_of g m) vs) (c.as_slice-waiting.ensures ∙ c.self.view_is) c.in_default.ensures in
    none_demoted_one c.args.event c.args.self.now (found_none c.args.self.now g m none)

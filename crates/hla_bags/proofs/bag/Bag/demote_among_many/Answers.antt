-- The message is demoted at its place, where much waits.
use Rattle.std.proofs.Common.{◌≡◌, List, None, [], ◌∷◌, get_or, subst, ap, ◌∙◌, rules}
use Rattle.hla_bags.specs.declared.bag.Waiting.{Waiting}
use Rattle.hla_bags.specs.Bags.{waiting_at, with_listed_demoted, AreApart, ordered_stamp}
use Rattle.hla_bags.proofs.Bags.Places.{demoted_at, none_demoted_one, found_none, unmoved}
use Rattle.hla_bags.proofs.bag.Bag.demote_among_many.Goals as goal

pub returns-then-is_some-clause-table : goal.returns-then-is_some-clause-table
returns-then-is_some-clause-table c =
    let ws = c.look_at_tail.new.self in
    let w = c.index-as_slice-place.result in
    let now = demoted_at c.args.event ws c.in-Some.place w (subst AreApart c.self.view_is c.self.invariant.apart) c.in-Some.ensures c.demote_at.new.self (c.demote_at.ensures.written w) in
    now.table ∙ ap (λ (vs : List Waiting). with_listed_demoted (c.args.event ∷ []) (waiting_at vs)) c.look_at_tail.ensures

pub returns-else-is_some-clause-table : goal.returns-else-is_some-clause-table
returns-else-is_some-clause-table c =
    let ws = c.look_at_tail.new.self in
    let w = c.index-as_slice-place.result in
    let place = c.in-Some.place in
    let read = subst (λ (vs : List Waiting). w ≡ get_or vs place w) (c.as_slice.ensures ∙ c.self.view_is) c.index-as_slice-place.is in
    let none : ordered_stamp w.delivery ≡ None = search rules in
    unmoved c.args.event ws place w (subst AreApart c.self.view_is c.self.invariant.apart) c.in-Some.ensures read none
    ∙ ap (λ (vs : List Waiting). with_listed_demoted (c.args.event ∷ []) (waiting_at vs)) c.look_at_tail.ensures

pub returns-in_default-clause-table : goal.returns-in_default-clause-table
returns-in_default-clause-table c =
    let ws = c.look_at_tail.new.self in
    none_demoted_one c.args.event ws (found_none ws c.args.event.sender c.args.event.serial c.in_default.ensures)
    ∙ ap (λ (vs : List Waiting). with_listed_demoted (c.args.event ∷ []) (waiting_at vs)) c.look_at_tail.ensures

-- What stands at its place is the message.
use Rattle.std.proofs.Common.{◌≡◌, ◌<◌, List, length, get_or, subst, sym, ◌∙◌}
use Rattle.hla_bags.specs.declared.bag.Waiting.{Waiting}
use Rattle.hla_bags.proofs.Bags.Places.{there_at, found_inside, found_none}
use Rattle.hla_bags.proofs.bag.Bag.find_among_many.Goals as goal

pub bounds-as_slice-place : goal.bounds-as_slice-place
bounds-as_slice-place c = subst (λ (ws : List Waiting). c.in-Some.place < length ws) (sym (c.as_slice.ensures ∙ c.self.view_is)) (found_inside c.args.self.now c.args.event.sender c.args.event.serial c.in-Some.place c.in-Some.ensures)

pub returns-in-Some : goal.returns-in-Some
returns-in-Some c =
    let w = c.index-as_slice-place.result in
    let read = subst (λ (ws : List Waiting). w ≡ get_or ws c.in-Some.place w) (c.as_slice.ensures ∙ c.self.view_is) c.index-as_slice-place.is in
    sym (there_at c.args.self.now c.args.event.sender c.args.event.serial c.in-Some.place w c.in-Some.ensures read)

pub returns-in-None : goal.returns-in-None
returns-in-None c = sym (found_none c.args.self.now c.args.event.sender c.args.event.serial c.in-None.ensures)

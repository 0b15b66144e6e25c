-- The first place has the block.
use Rattle.std.proofs.Common.{sym, ◌∙◌}
use Rattle.hla_order_queues.proofs.UnderSeparators.PlacesLemmas.{taken_first, first_there}
use Rattle.hla_order_queues.proofs.separators.Separators.take_first.Goals as goal

pub invariant_of-self : goal.invariant_of-self
invariant_of-self c =
    (taken_first c.self.inside.blocks c.try_remove.new.self c.self.inside.places.entries c.pop_first.new.self.entries c.in-Some.field-0-0 c.in-Some.place c.self.invariant c.in-Some.ensures.removal c.try_remove.ensures.updates).held

pub returns-in-Some : goal.returns-in-Some
returns-in-Some c =
    let taken = taken_first c.self.inside.blocks c.try_remove.new.self c.self.inside.places.entries c.pop_first.new.self.entries c.in-Some.field-0-0 c.in-Some.place c.self.invariant c.in-Some.ensures.removal c.try_remove.ensures.updates in
    let block = c.try_remove.ensures.value ∙ first_there c.self.inside.blocks c.self.inside.places.entries c.pop_first.new.self.entries c.in-Some.field-0-0 c.in-Some.place c.self.invariant c.in-Some.ensures.removal in
    rw block (c.in-Some.field-0-0, sym c.self.view_is ∙ taken.was)

-- The last of the blocks whose separators do not come after the key.
use Rattle.std.proofs.Common.{subst, sym, ◌∙◌}
use Rattle.hla_order_queues.specs.Kept.{AreAfter, IsPlace}
use Rattle.hla_order_queues.proofs.UnderSeparators.PlacesLemmas.{placed_in, none_placed}
use Rattle.hla_order_queues.proofs.separators.Separators.separator_of.Goals as goal

pub returns-in-Some : goal.returns-in-Some
returns-in-Some c =
    subst (IsPlace c.args.key c.in-Some.separator.now) c.self.view_is (placed_in c.self.inside.blocks c.args.key c.in-Some.separator.now c.in-Some.field-0-1.now c.next_back.new.self c.self.inside.places.entries (sym (c.range.ensures.between tt) ∙ c.in-Some.ensures.steps) c.range.ensures.ordered)

pub returns-in-None : goal.returns-in-None
returns-in-None c = subst (AreAfter c.args.key) c.self.view_is (none_placed c.self.inside.blocks c.args.key c.self.inside.places.entries (sym (c.range.ensures.between tt) ∙ c.in-None.ensures.steps.0))

-- The separator and the block at its place go.
use Rattle.std.proofs.Common.{ap, ◌∙◌}
use Rattle.hla_order_queues.specs.Kept.{without_block}
use Rattle.hla_order_queues.specs.Places.{blocks_at}
use Rattle.hla_order_queues.proofs.UnderSeparators.PlacesLemmas.{there_is, none_there, removed_nothing, IsHeldWith, held_without}
use Rattle.hla_order_queues.proofs.separators.Separators.remove.Goals as goal
use Rattle.hla_order_queues.proofs.separators.Separators.remove.Goals.{After-try_remove}

pub returns-in_err-place-clause-found : goal.returns-in_err-place-clause-found
returns-in_err-place-clause-found c = c.from_residual.ensures ∙ none_there c.self.inside.blocks c.args.separator c.self.invariant c.self.view_is c.in_err-place.ensures.value

pub returns-in_err-place-clause-rest : goal.returns-in_err-place-clause-rest
returns-in_err-place-clause-rest c =
    ap (blocks_at c.self.inside.blocks) c.in_err-place.ensures.unchanged
    ∙ c.self.view_is
    ∙ removed_nothing c.args.separator c.args.self.now (none_there c.self.inside.blocks c.args.separator c.self.invariant c.self.view_is c.in_err-place.ensures.value)

removed : (c : After-try_remove) → IsHeldWith c.try_remove.new.self c.remove.new.self.entries (without_block c.args.separator c.args.self.now)
removed c =
    held_without c.self.inside.blocks c.try_remove.new.self c.args.separator c.in_ok-place.place c.self.inside.places.entries c.remove.new.self.entries c.args.self.now c.self.invariant c.self.view_is c.in_ok-place.ensures.value c.try_remove.ensures.updates c.in_ok-place.ensures.entries

pub invariant_of-self-2 : goal.invariant_of-self-2
invariant_of-self-2 c = (removed c).held

pub returns-clause-found : goal.returns-clause-found
returns-clause-found c = c.try_remove.ensures.value ∙ there_is c.args.separator c.in_ok-place.place c.self.invariant c.self.view_is c.in_ok-place.ensures.value

pub returns-clause-rest : goal.returns-clause-rest
returns-clause-rest c = (removed c).view

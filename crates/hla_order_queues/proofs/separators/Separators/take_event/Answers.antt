-- The event goes from the block at the place of the separator.
use Rattle.std.proofs.Common.{◌≡◌, Some, None, refl, ap, ◌∙◌}
use Rattle.hla_order_queues.specs.Kept.{block_at, set_block}
use Rattle.hla_order_queues.proofs.UnderSeparators.PlacesLemmas.{there_is, none_there, now_is}
use Rattle.hla_order_queues.proofs.separators.Separators.take_event.Goals as goal

pub returns-in_err-place : goal.returns-in_err-place
returns-in_err-place c = rw (← none_there c.self.inside.blocks c.args.separator c.self.invariant c.self.view_is c.in_err-place.ensures.value) (c.from_residual.ensures, refl)

pub returns-in_err-block : goal.returns-in_err-block
returns-in_err-block c =
    let none : None ≡ block_at c.args.separator c.args.self.now = c.in_err-block.ensures.value ∙ there_is c.args.separator c.in_ok-place.field-0.now c.self.invariant c.self.view_is c.in_ok-place.ensures.value in
    rw (← none) (c.from_residual-in_err-block.ensures, c.self.view_is)

pub returns : goal.returns
returns c =
    let there : Some c.in_ok-block.block.now ≡ block_at c.args.separator c.args.self.now = c.in_ok-block.ensures.value ∙ there_is c.args.separator c.in_ok-place.field-0.now c.self.invariant c.self.view_is c.in_ok-place.ensures.value in
    let now = now_is c.args.separator c.in_ok-place.field-0.now c.remove.new.self c.self.invariant c.self.view_is c.in_ok-place.ensures.value in
    rw (← there) (c.remove.ensures.found, now ∙ ap (set_block c.args.separator c.args.self.now) c.remove.ensures.rest)

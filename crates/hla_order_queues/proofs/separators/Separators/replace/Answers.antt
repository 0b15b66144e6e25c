-- The block at the place of the separator is another.
use Rattle.std.proofs.Common.{◌≡◌, None, ◌∙◌}
use Rattle.hla_order_queues.specs.Kept.{block_at}
use Rattle.hla_order_queues.proofs.UnderSeparators.PlacesLemmas.{there_is, none_there, now_is, set_nothing}
use Rattle.hla_order_queues.proofs.separators.Separators.replace.Goals as goal

pub returns-in_default : goal.returns-in_default
returns-in_default c =
    set_nothing c.args.separator c.args.self.now c.args.block (none_there c.self.inside.blocks c.args.separator c.self.invariant c.self.view_is c.in_default.ensures.value)

pub returns-in_default-get_mut : goal.returns-in_default-get_mut
returns-in_default-get_mut c =
    let none : None ≡ block_at c.args.separator c.args.self.now = c.in_default-get_mut.ensures.value ∙ there_is c.args.separator c.in-Some.place.now c.self.invariant c.self.view_is c.in-Some.ensures.value in
    c.self.view_is ∙ set_nothing c.args.separator c.args.self.now c.args.block none

pub returns : goal.returns
returns c = now_is c.args.separator c.in-Some.place.now c.args.block c.self.invariant c.self.view_is c.in-Some.ensures.value

-- The list of the sender is asked, or there is none.
use Rattle.hla_order_queues.specs.Kept.{name_of_key}
use Rattle.hla_order_queues.proofs.ByName.NamesLemmas.{least_noted, noted_past, untouched}
use Rattle.hla_order_queues.proofs.names.pass_noted.Goals as goal

pub pass-requires : goal.pass-requires
pass-requires c = least_noted c.args.rising.now.items c.args.key c.in-Some.events.now c.requires c.in-Some.ensures.item.3.0 c.in-Some.ensures.value

pub returns-in_default : goal.returns-in_default
returns-in_default c =
    λ n. untouched c.args.rising.now.items (name_of_key c.args.key) n (noted_past c.args.rising.now.items (name_of_key c.args.key) (rw c.in_default.is at c.get_mut.ensures.item).3)

-- What is greater than all is not noted.
use Rattle.hla_order_queues.proofs.ByName.RisingLemmas.{none_less}
use Rattle.hla_order_queues.proofs.rising.stamp_noted.Goals as goal

pub returns-then-is_below : goal.returns-then-is_below
returns-then-is_below c = none_less c.args.serial c.args.notes.now.items c.if-is_below.ensures

-- The first note has the serial, and goes.
use Rattle.hla_order_queues.proofs.ByName.RisingLemmas.{took_first}
use Rattle.hla_order_queues.proofs.rising.take_first.Goals as goal

pub returns-in-Some : goal.returns-in-Some
returns-in-Some c =
    took_first c.args.serial c.args.notes.now.items c.pop_front.new.self.items c.in-Some.note c.requires.rising c.requires.first c.in-Some.ensures.lookup c.in-Some.ensures.rest

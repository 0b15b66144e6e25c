-- The last serial is the greatest.
use Rattle.std.proofs.Common.{refl, arith}
use Rattle.hla_order_queues.proofs.ByName.RisingLemmas.{below_says}
use Rattle.hla_order_queues.proofs.rising.is_below.Goals as goal

pub returns-in-Some : goal.returns-in-Some
returns-in-Some c =
    below_says c.args.serial _ c.args.notes.now.items c.args.notes.now.items c.in-Some.last.now c.requires refl (omega (arith, c.args.notes.now.ok.0, c.in-Some.ensures.item.3.0)) (omega (arith, c.args.notes.now.ok.0)) c.in-Some.ensures.lookup

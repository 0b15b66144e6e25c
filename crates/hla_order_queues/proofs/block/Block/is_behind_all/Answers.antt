-- The last event is the greatest.
use Rattle.std.proofs.Common.{arith}
use Rattle.hla_order_queues.proofs.Events.PlaceLemmas.{behind_says}
use Rattle.hla_order_queues.proofs.block.Block.is_behind_all.Goals as goal

pub returns-in-Some : goal.returns-in-Some
returns-in-Some c =
    behind_says c.args.key _ c.self.inside.events.items c.args.self.now c.in-Some.last.now c.is_before.result c.requires c.self.view_is (omega (arith, c.self.inside.events.ok.0, c.in-Some.ensures.item.3.0)) (omega (arith, c.self.inside.events.ok.0)) c.in-Some.ensures.lookup c.is_before.ensures

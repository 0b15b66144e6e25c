-- The place that was found is that of the event, and none was found where there is none.
use Rattle.std.proofs.Common.{length, sym, ap, ◌∙◌}
use Rattle.hla_order_queues.proofs.Events.QueueLemmas.{found_at, removed_at, event_not_there}
use Rattle.hla_order_queues.proofs.block.Block.remove.Goals as goal

pub returns-in-Some-clause-found : goal.returns-in-Some-clause-found
returns-in-Some-clause-found c =
    found_at c.args.sender c.args.serial c.args.self.now c.in-Some.place _ c.remove-event.result (c.self.inside.events.ok.0 ∙ ap length c.self.view_is) c.in-Some.ensures c.remove-event.ensures.variant (rw c.self.view_is at c.remove-event.ensures.value)

pub returns-in-Some-clause-rest : goal.returns-in-Some-clause-rest
returns-in-Some-clause-rest c =
    c.shrink.ensures ∙ removed_at c.args.sender c.args.serial c.args.self.now c.remove-event.new.self.items c.in-Some.place _ c.remove-event.result (c.self.inside.events.ok.0 ∙ ap length c.self.view_is) c.in-Some.ensures c.remove-event.ensures.variant (rw c.self.view_is at c.remove-event.ensures.items)

pub returns-in-None-clause-found : goal.returns-in-None-clause-found
returns-in-None-clause-found c = sym (event_not_there c.args.sender c.args.serial c.args.self.now c.in-None.ensures).0

pub returns-in-None-clause-rest : goal.returns-in-None-clause-rest
returns-in-None-clause-rest c = sym (event_not_there c.args.sender c.args.serial c.args.self.now c.in-None.ensures).1

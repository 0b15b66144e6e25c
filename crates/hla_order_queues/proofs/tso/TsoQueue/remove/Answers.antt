-- The name tells the stamp of the event, and goes with it.
use Rattle.std.proofs.Common.{◌≡◌, None, sym, ap, ◌∙◌}
use Rattle.hla_component_rules.specs.Queues.{find_event}
use Rattle.hla_order_queues.proofs.Events.EventLemmas.{remove_event_missed}
use Rattle.hla_order_queues.proofs.ByName.StampLemmas.{named_removed, named_missed, no_name}
use Rattle.hla_order_queues.proofs.tso.TsoQueue.remove.Goals as goal
use Rattle.hla_order_queues.proofs.tso.TsoQueue.remove.Goals.{In-None}

pub remove_key-requires : goal.remove_key-requires
remove_key-requires c =
    sym (c.in-Some.ensures.found ∙ c.self.invariant.named (record { sender = c.args.sender; serial = c.args.serial }))

pub invariant_of-self : goal.invariant_of-self
invariant_of-self c =
    named_removed c.self.inside.names c.take.new.self (record { sender = c.args.sender; serial = c.args.serial }) c.self.inside.events c.remove_key.new.self c.self.invariant c.take.ensures.rest c.remove_key.ensures.rest

missed : (c : In-None) → find_event c.args.sender c.args.serial c.self.inside.events ≡ None
missed c = no_name c.self.inside.names c.self.inside.events c.args.sender c.args.serial c.self.invariant c.in-None.ensures.found

pub invariant_of-self-in-None : goal.invariant_of-self-in-None
invariant_of-self-in-None c =
    named_missed c.self.inside.names c.take.new.self (record { sender = c.args.sender; serial = c.args.serial }) c.self.inside.events c.self.invariant c.take.ensures.rest (missed (goal.at.invariant_of-self-in-None c).In-None)

pub returns-in-None-clause-found : goal.returns-in-None-clause-found
returns-in-None-clause-found c = sym (ap (find_event c.args.sender c.args.serial) (sym c.self.view_is) ∙ missed (goal.at.returns-in-None-clause-found c).In-None)

pub returns-in-None-clause-rest : goal.returns-in-None-clause-rest
returns-in-None-clause-rest c =
    c.self.view_is ∙ sym (remove_event_missed c.args.sender c.args.serial c.args.self.now (ap (find_event c.args.sender c.args.serial) (sym c.self.view_is) ∙ missed (goal.at.returns-in-None-clause-rest c).In-None))

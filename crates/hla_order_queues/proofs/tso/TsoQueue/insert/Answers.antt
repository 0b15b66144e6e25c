-- The name is put first, and taken back where the event is refused.
use Rattle.std.proofs.Common.{◌≡◌, None, ap, sym, subst, ◌∙◌}
use Rattle.hla_order_queues.specs.declared.key.EventKey.{EventKey}
use Rattle.hla_order_queues.specs.Kept.{key_of, name_of_key, stamp_at}
use Rattle.hla_component_rules.specs.Queues.{find_event}
use Rattle.hla_order_queues.proofs.ByName.NamesLemmas.{put_told, refused_told}
use Rattle.hla_order_queues.proofs.ByName.StampLemmas.{named_inserted, named_same, named_back, not_named}
use Rattle.hla_order_queues.proofs.tso.TsoQueue.insert.Goals as goal

pub put-requires : goal.put-requires
put-requires c =
    let fresh : find_event c.args.event.sender c.args.event.serial c.self.inside.events ≡ None = ap (find_event c.args.event.sender c.args.event.serial) c.self.view_is ∙ c.requires in
    subst (λ (k : EventKey). stamp_at c.self.inside.names (name_of_key k) ≡ None) (sym c.of-key.ensures) (not_named c.self.inside.names (name_of_key (key_of c.args.event)) c.self.inside.events c.self.invariant fresh)

pub invariant_of-self : goal.invariant_of-self
invariant_of-self c = named_same c.self.inside.names c.put.new.self c.self.inside.events c.self.invariant (refused_told c.put.result _ c.put.ensures.refused c.if-not-put.true)

pub invariant_of-self-in-Ok : goal.invariant_of-self-in-Ok
invariant_of-self-in-Ok c =
    named_inserted c.self.inside.names c.put.new.self c.args.event c.of-key.result c.self.inside.events c.insert.new.self c.args.self.now c.self.invariant c.self.view_is c.requires c.of-key.ensures (put_told c.put.result _ c.put.ensures.put c.if-not-put.false) c.in-Ok.ensures.ok

pub invariant_of-self-in-Err : goal.invariant_of-self-in-Err
invariant_of-self-in-Err c =
    named_back c.self.inside.names c.put.new.self c.take.new.self c.args.event c.of-key.result c.name.result c.self.inside.events c.insert.new.self c.args.self.now c.self.invariant c.self.view_is c.requires c.of-key.ensures c.name.ensures (put_told c.put.result _ c.put.ensures.put c.if-not-put.false) c.take.ensures.rest c.in-Err.ensures.unchanged

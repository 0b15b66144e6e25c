-- The event goes into the block of its place.
use Rattle.std.proofs.Common.{◌≡◌, List, ap, subst, sym, ◌∙◌}
use Rattle.std.specs.Result.{OnOk, OnErr}
use Rattle.hla_base.specs.declared.content.Event.{Event}
use Rattle.hla_component_rules.specs.Queues.{insert_event}
use Rattle.hla_order_queues.specs.declared.key.EventKey.{EventKey}
use Rattle.hla_order_queues.specs.Kept.{events_of, AreBelowBlocks, IsPlace}
use Rattle.hla_order_queues.proofs.UnderSeparators.PutLemmas.{IsPut, put_under, ordered_under}
use Rattle.hla_order_queues.proofs.blocks.Blocks.insert_splitting.Goals as goal
use Rattle.hla_order_queues.proofs.blocks.Blocks.insert_splitting.Goals.{After-insert_event}

pub insert_event-requires : goal.insert_event-requires
insert_event-requires c = ordered_under c.in-Some.separator c.roomy_separator.new.separators c.in-Some.ensures.place.at c.in-Some.ensures.blocks

put : (c : After-insert_event) → IsPut c.args.event c.roomy_separator.new.separators c.insert_event.new.self c.insert_event.result
put c =
    let place = subst (λ (k : EventKey). IsPlace k c.in-Some.separator c.roomy_separator.new.separators) c.of.ensures c.in-Some.ensures.place in
    put_under c.args.event c.roomy_separator.new.separators c.insert_event.new.self c.in-Some.separator c.insert_event.result place c.in-Some.ensures.blocks c.insert_event.ensures.put

same : (c : After-insert_event) → events_of c.roomy_separator.new.separators ≡ events_of c.args.self.now
same c = c.in-Some.ensures.same ∙ ap events_of c.self.view_is

pub invariant_of-self-2 : goal.invariant_of-self-2
invariant_of-self-2 c = (put c).blocks

pub returns-clause-ok : goal.returns-clause-ok
returns-clause-ok c =
    subst (λ (zs : List Event). OnOk c.insert_event.result (events_of c.insert_event.new.self ≡ insert_event c.args.event zs)) (same c) (put c).ok

pub returns-clause-unchanged : goal.returns-clause-unchanged
returns-clause-unchanged c =
    subst (λ (zs : List Event). OnErr c.insert_event.result (events_of c.insert_event.new.self ≡ zs)) (same c) (put c).unchanged

pub returns-clause-below : goal.returns-clause-below
returns-clause-below c = λ xs q. (put c).below xs (c.in-Some.ensures.below xs (subst (AreBelowBlocks xs) (sym c.self.view_is) q))

-- The event is in the first block where all later separators come after the key, and else among the later ones.
use Rattle.std.proofs.Common.{◌≡◌, ◌++◌, None, Some, sym, ap, subst, ◌∙◌}
use Rattle.hla_component_rules.specs.Queues.{find_event}
use Rattle.hla_order_queues.specs.Kept.{key_of, events_of, AreAfter, AreBelowBlocks}
use Rattle.hla_order_queues.proofs.Events.OrderLemmas.{parts_of}
use Rattle.hla_order_queues.proofs.Events.RemovalLemmas.{find_event_behind, remove_event_before, remove_event_behind, All-remove_event}
use Rattle.hla_order_queues.proofs.ByName.StampLemmas.{HasKey, key_is_there}
use Rattle.hla_order_queues.proofs.UnderSeparators.KeyLemmas.{in_front, key_behind, stamp_behind}
use Rattle.hla_order_queues.proofs.UnderSeparators.PutLemmas.{missed_in_front}
use Rattle.hla_order_queues.proofs.ordered.take_key.Goals as goal
use Rattle.hla_order_queues.proofs.ordered.take_key.Goals.{Start, Then-is_after, Else-is_after}

key : (c : Start) → HasKey c.args.key (c.args.first.now ++ events_of c.args.later.now)
key c = key_is_there c.args.key (c.args.first.now ++ events_of c.args.later.now) c.requires.there

front : (c : Then-is_after) → (h : HasKey c.args.key (c.args.first.now ++ events_of c.args.later.now)) → find_event c.args.key.sender c.args.key.serial c.args.first.now ≡ Some h.event
front c h = in_front c.args.key c.args.first.now (events_of c.args.later.now) h (parts_of c.args.first.now (events_of c.args.later.now) c.requires.ordered).back (c.is_after.ensures.events c.if-is_after.true)

missed : (c : Else-is_after) → HasKey c.args.key (c.args.first.now ++ events_of c.args.later.now) → find_event c.args.key.sender c.args.key.serial c.args.first.now ≡ None
missed c h = missed_in_front c.args.key c.args.first.now c.args.later.now (events_of c.args.later.now) h (c.is_after.ensures.within c.if-is_after.false) c.requires.below

pub remove_key-requires-clause-there : goal.remove_key-requires-clause-there
remove_key-requires-clause-there c =
    let h = key (goal.at.remove_key-requires-clause-there c).Start in
    stamp_behind c.args.key (events_of c.args.later.now) (key_behind c.args.key c.args.first.now (events_of c.args.later.now) h (missed (goal.at.remove_key-requires-clause-there c).Else-is_after h))

pub returns-then-is_after-clause-found : goal.returns-then-is_after-clause-found
returns-then-is_after-clause-found c =
    let h = key (goal.at.returns-then-is_after-clause-found c).Start in
    c.remove.ensures.found ∙ front (goal.at.returns-then-is_after-clause-found c).Then-is_after h ∙ sym h.found

pub returns-then-is_after-clause-rest : goal.returns-then-is_after-clause-rest
returns-then-is_after-clause-rest c =
    let h = key (goal.at.returns-then-is_after-clause-rest c).Start in
    ap (λ zs. zs ++ events_of c.args.later.now) c.remove.ensures.rest ∙ sym (remove_event_before c.args.key.sender c.args.key.serial c.args.first.now (events_of c.args.later.now) h.event (front (goal.at.returns-then-is_after-clause-rest c).Then-is_after h))

pub returns-then-is_after-clause-below : goal.returns-then-is_after-clause-below
returns-then-is_after-clause-below c =
    subst (λ xs. AreBelowBlocks xs c.args.later.now) (sym c.remove.ensures.rest) (All-remove_event (λ x. AreAfter (key_of x) c.args.later.now) c.args.key.sender c.args.key.serial c.args.first.now c.requires.below)

pub returns-else-is_after-clause-found : goal.returns-else-is_after-clause-found
returns-else-is_after-clause-found c =
    let h = key (goal.at.returns-else-is_after-clause-found c).Start in
    c.remove_key.ensures.found ∙ sym (find_event_behind c.args.key.sender c.args.key.serial c.args.first.now (events_of c.args.later.now) (missed (goal.at.returns-else-is_after-clause-found c).Else-is_after h))

pub returns-else-is_after-clause-rest : goal.returns-else-is_after-clause-rest
returns-else-is_after-clause-rest c =
    let h = key (goal.at.returns-else-is_after-clause-rest c).Start in
    ap (λ zs. c.args.first.now ++ zs) c.remove_key.ensures.rest ∙ sym (remove_event_behind c.args.key.sender c.args.key.serial c.args.first.now (events_of c.args.later.now) (missed (goal.at.returns-else-is_after-clause-rest c).Else-is_after h))

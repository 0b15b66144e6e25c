-- The event is in the block of its place.
use Rattle.std.proofs.Common.{List, ap, subst, sym, ◌∙◌}
use Rattle.hla_base.specs.declared.content.Event.{Event}
use Rattle.hla_order_queues.specs.declared.key.EventKey.{EventKey}
use Rattle.hla_component_rules.specs.Queues.{find_event, remove_event}
use Rattle.hla_order_queues.proofs.Events.RemovalLemmas.{IsInOrder-remove_event}
use Rattle.hla_order_queues.specs.Kept.{events_of, AreAfter, AreBelowBlocks, IsInOrder}
use Rattle.hla_order_queues.proofs.ByName.StampLemmas.{HasKey, key_is_there}
use Rattle.hla_order_queues.proofs.UnderSeparators.PutLemmas.{IsTakenFromBlock, taken_out, not_before}
use Rattle.hla_order_queues.proofs.blocks.Blocks.remove_key.Goals as goal
use Rattle.hla_order_queues.proofs.blocks.Blocks.remove_key.Goals.{After-take_event-event, In_err-separator}

key : (c : After-take_event-event) → HasKey c.args.key (events_of c.self.inside.separators)
key c = subst (λ (es : List (EventKey × List Event)). HasKey c.args.key (events_of es)) (sym c.self.view_is) (key_is_there c.args.key (events_of c.args.self.now) c.requires.there)

taken : (c : After-take_event-event) → IsTakenFromBlock c.args.key c.in_ok-separator.separator c.self.inside.separators c.take_event-event.new.self c.take_event-event.result
taken c =
    taken_out c.args.key c.in_ok-separator.separator c.self.inside.separators c.take_event-event.new.self c.take_event-event.result c.in_ok-separator.ensures c.self.invariant (key c) c.take_event-event.ensures

pub drop_empty-requires-clause-at : goal.drop_empty-requires-clause-at
drop_empty-requires-clause-at c = (taken (goal.at.drop_empty-requires-clause-at c).After-take_event-event).at

pub drop_empty-requires-clause-separatored : goal.drop_empty-requires-clause-separatored
drop_empty-requires-clause-separatored c = (taken (goal.at.drop_empty-requires-clause-separatored c).After-take_event-event).separatored

pub drop_empty-requires-clause-filled : goal.drop_empty-requires-clause-filled
drop_empty-requires-clause-filled c = (taken (goal.at.drop_empty-requires-clause-filled c).After-take_event-event).filled

pub invariant_of-self : goal.invariant_of-self
invariant_of-self c =
    let t = taken (goal.at.invariant_of-self c).After-take_event-event in
    record {
      filled = c.drop_empty.ensures.filled;
      separatored = c.drop_empty.ensures.separatored;
      ordered = subst IsInOrder (sym (c.drop_empty.ensures.events ∙ t.rest)) (IsInOrder-remove_event c.args.key.sender c.args.key.serial (events_of c.self.inside.separators) c.self.invariant.ordered);
    }

pub returns-clause-found : goal.returns-clause-found
returns-clause-found c =
    (taken (goal.at.returns-clause-found c).After-take_event-event).found ∙ ap (λ (es : List (EventKey × List Event)). find_event c.args.key.sender c.args.key.serial (events_of es)) c.self.view_is

pub returns-clause-rest : goal.returns-clause-rest
returns-clause-rest c =
    c.drop_empty.ensures.events ∙ (taken (goal.at.returns-clause-rest c).After-take_event-event).rest ∙ ap (λ (es : List (EventKey × List Event)). remove_event c.args.key.sender c.args.key.serial (events_of es)) c.self.view_is

pub returns-clause-below : goal.returns-clause-below
returns-clause-below c =
    λ xs q. c.drop_empty.ensures.below xs ((taken (goal.at.returns-clause-below c).After-take_event-event).below xs (subst (AreBelowBlocks xs) (sym c.self.view_is) q))

never : (c : In_err-separator) → ⊥
never c = not_before c.args.key c.args.self.now (subst (AreAfter c.args.key) c.self.view_is c.in_err-separator.ensures) c.requires.within

pub returns-in_err-separator-clause-found : goal.returns-in_err-separator-clause-found
returns-in_err-separator-clause-found c = absurd (never (goal.at.returns-in_err-separator-clause-found c).In_err-separator)

pub returns-in_err-separator-clause-rest : goal.returns-in_err-separator-clause-rest
returns-in_err-separator-clause-rest c = absurd (never (goal.at.returns-in_err-separator-clause-rest c).In_err-separator)

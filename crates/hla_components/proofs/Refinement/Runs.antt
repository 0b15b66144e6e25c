-- Each step, and whole lists of steps
use Rattle.std.proofs.Common.{◌≡◌, ℕ, refl, sym, subst, arith, List, [], ◌∷◌, Option, Some, None}
use Rattle.hla_base.specs.declared.fault.Fault.{Fault}
use Rattle.hla_null_message.specs.declared.message.Message.{Message}
use Rattle.hla_null_message.specs.declared.message.Message.TheVariants as message
use Rattle.hla_catalogue.specs.CatalogueValue.{CatalogueValue}
use Rattle.hla_machine.specs.declared.service.Service.{Service}
use Rattle.hla_machine.specs.declared.service.Service.TheVariants as service
use Rattle.hla_machine.specs.declared.step.Step.{Step}
use Rattle.hla_machine.specs.declared.step.Step.TheVariants.{Join, Call, Carry, Announce, Tick}
use Rattle.hla_machine.specs.Refusals.{refusal}
use Rattle.hla_machine.specs.Central.{Central, new_central}
use Rattle.hla_machine.specs.Laws.{IsSafe, IsAhead}
use Rattle.hla_machine.specs.History.{Happens, HappenAfter, HappensLater}
use Rattle.hla_machine.proofs.Upkeep.Ahead.{run_ahead}
use Rattle.hla_machine.proofs.Upkeep.Numbers.{AllNumbers, numbers_new, numbers_after}
use Rattle.hla_machine.specs.Runs.{IsRun}
use Rattle.hla_machine.specs.Machine.{IsChoice}
use Rattle.hla_machine.proofs.Upkeep.Runs.{run_safe}
use Rattle.hla_component_rules.specs.declared.control.Control.TheVariants.{ToDiscover, ToRetract, ToTell}
use Rattle.hla_null_message.specs.Wires.{discoveries, events, retractions}
use Rattle.hla_component_rules.specs.Controls.{discoveries_from, dues, notices_in}
use Rattle.hla_component_rules.specs.Queues.{occurrences, find_event}
use Rattle.hla_components.specs.Components.{Components, new_components}
use Rattle.hla_components.specs.Component.{local_bound}
use Rattle.hla_component_rules.specs.Picking.{Pick, NoPick, PickControl, PickRo, PickRegulates, PickConstrains, PickTso, PickGrant}
use Rattle.hla_components.specs.Next.{Outcomes, unless_refused, components_seen, step_outcome, carry_outcome, pick_outcome, next}
use Rattle.hla_components.specs.CentralOf.{central}
use Rattle.hla_components.specs.Invariant.{Kept, Inv, CountsEnablings, EpochInv}
use Rattle.hla_machine.specs.CentralInvariant.{CentralInv}
use Rattle.hla_components.specs.Headline.{IsStep, IsKeptStep, happening, happenings, state_after}
use Rattle.hla_components.proofs.Upkeep.Directories.{directory_start}
use Rattle.hla_machine.proofs.Basics.Bags.{bag_ext, central_ext}
use Rattle.hla_machine.proofs.Upkeep.CentralInvariant.{laws_after}
use Rattle.hla_components.proofs.Refinement.Counts.{done_counts, counts_start}
use Rattle.hla_components.proofs.Refinement.Choices.{step_choice, refused_choice}
use Rattle.hla_components.proofs.Refinement.Picks.{PickFacts, pick_tells}
use Rattle.hla_components.proofs.Services.Steps.{step_publish_class, step_unpublish_class, step_unsubscribe_class, step_publish_interaction, step_unpublish_interaction, step_subscribe_interaction, step_unsubscribe_interaction, step_interaction_order, step_attribute_orders, step_send_interaction, step_event, step_null, step_nothing}
use Rattle.hla_components.proofs.Services.Ticks.{step_no_pick, step_ro}
use Rattle.hla_components.proofs.Services.Joins.{row_start, step_join}
use Rattle.hla_machine.proofs.Basics.Tests.{ticker_joined}
use Rattle.hla_components.proofs.Services.TimeSteps.{step_advance, step_advance_available, step_next, step_next_available, step_flush, step_constrain, step_lookahead, step_asynchronous, step_synchronous, step_announce, step_stop}
use Rattle.hla_components.proofs.Services.Entries.{step_regulate}
use Rattle.hla_components.proofs.Upkeep.Demotions.{step_cease, step_constrains}
use Rattle.hla_components.proofs.Services.Advances.{step_regulates, step_grant, step_tso}
use Rattle.hla_components.proofs.Services.Queries.{step_bound, step_time, step_query_lookahead, step_least, step_object_class, step_interaction_class, step_attribute, step_parameter, step_object, step_object_name}
use Rattle.hla_components.proofs.Services.Retractions.{step_retract, step_retraction}
use Rattle.hla_components.proofs.Services.Discoveries.{step_request, step_discover, step_discovery, step_subscribe}
use Rattle.hla_components.proofs.Services.Registrations.{step_register}
use Rattle.hla_components.proofs.Services.Updates.{step_update, step_delete}
use Rattle.hla_components.proofs.Services.Resigns.{step_resign}
use Rattle.hla_components.proofs.Services.Telling.{step_register_point, step_achieve_point, step_tell}

-- ---- steps that are not refused
call_step : (s : Components) (f : ℕ) (x : Service) → Inv s → refusal (components_seen s) (Call f x) ≡ None → IsKeptStep s (Call f x) (step_outcome s (Call f x))
call_step s f (service.Resign way) inv none = step_resign s f way inv.kept none
call_step s f (service.PublishObjectClass class attributes) inv none = step_publish_class s f class inv.kept attributes none
call_step s f (service.UnpublishObjectClass class) inv none = step_unpublish_class s f class inv.kept none
call_step s f (service.SubscribeObjectClassAttributes class attributes) inv none = step_subscribe s f class attributes inv.kept none
call_step s f (service.UnsubscribeObjectClass class) inv none = step_unsubscribe_class s f class inv.kept none
call_step s f (service.PublishInteractionClass class) inv none = step_publish_interaction s f class inv.kept none
call_step s f (service.UnpublishInteractionClass class) inv none = step_unpublish_interaction s f class inv.kept none
call_step s f (service.SubscribeInteractionClass class) inv none = step_subscribe_interaction s f class inv.kept none
call_step s f (service.UnsubscribeInteractionClass class) inv none = step_unsubscribe_interaction s f class inv.kept none
call_step s f (service.RegisterObjectInstance class name) inv none = step_register s f class name inv.kept none
call_step s f (service.UpdateAttributeValues object values stamp) inv none = step_update s f object values stamp inv.kept none
call_step s f (service.SendInteraction class values stamp) inv none = step_send_interaction s f class values stamp inv.kept none
call_step s f (service.DeleteObjectInstance object stamp) inv none = step_delete s f object stamp inv.kept none
call_step s f (service.ChangeAttributeOrderType object attributes order) inv none = step_attribute_orders s f object attributes order inv.kept none
call_step s f (service.ChangeInteractionOrderType class order) inv none = step_interaction_order s f class inv.kept order none
call_step s f (service.Retract event) inv none = step_retract s f event inv.kept inv.laws none
call_step s f (service.RegisterFederationSynchronizationPoint label) inv none = step_register_point s f label inv.kept none
call_step s f (service.SynchronizationPointAchieved label) inv none = step_achieve_point s f label inv.kept none
call_step s f (service.EnableTimeRegulation time lookahead) inv none = step_regulate s f time lookahead inv.kept none
call_step s f service.DisableTimeRegulation inv none = step_stop s f inv.kept none
call_step s f service.EnableTimeConstrained inv none = step_constrain s f inv.kept none
call_step s f service.DisableTimeConstrained inv none = step_cease s f inv.kept none
call_step s f (service.TimeAdvanceRequest time) inv none = step_advance s f time inv.kept none
call_step s f (service.TimeAdvanceRequestAvailable time) inv none = step_advance_available s f time inv.kept none
call_step s f (service.NextEventRequest time) inv none = step_next s f time inv.kept none
call_step s f (service.NextEventRequestAvailable time) inv none = step_next_available s f time inv.kept none
call_step s f (service.FlushQueueRequest time) inv none = step_flush s f time inv.kept none
call_step s f (service.ModifyLookahead lookahead) inv none = step_lookahead s f inv.kept lookahead none
call_step s f service.EnableAsynchronousDelivery inv none = step_asynchronous s f inv.kept none
call_step s f service.DisableAsynchronousDelivery inv none = step_synchronous s f inv.kept none
call_step s f service.QueryLbts inv none = step_bound s f inv.kept none
call_step s f service.QueryFederateTime inv none = step_time s f inv.kept none
call_step s f service.QueryMinNextEventTime inv none = step_least s f inv.kept none
call_step s f service.QueryLookahead inv none = step_query_lookahead s f inv.kept none
call_step s f (service.GetObjectClassHandle name) inv none = step_object_class s f inv.kept name none
call_step s f (service.GetInteractionClassHandle name) inv none = step_interaction_class s f inv.kept name none
call_step s f (service.GetAttributeHandle name class) inv none = step_attribute s f inv.kept name class none
call_step s f (service.GetParameterHandle name class) inv none = step_parameter s f inv.kept name class none
call_step s f (service.GetObjectInstanceHandle name) inv none = step_object s f inv.kept name none
call_step s f (service.GetObjectInstanceName object) inv none = step_object_name s f inv.kept object none

carry_step : (s : Components) (g f : ℕ) (ms : List Message) → Kept s → s.wire g f ≡ ms → refusal (components_seen s) (Carry g f) ≡ None → IsKeptStep s (Carry g f) (carry_outcome s g f ms)
carry_step s g f [] kept front none = step_nothing s g f kept none
carry_step s g f (message.Event e ∷ ms) kept front none = step_event s g f e ms kept front none
carry_step s g f (message.Null k v ∷ ms) kept front none = step_null s g f k v ms kept front none
carry_step s g f (message.Retraction m ∷ ms) kept front none = step_retraction s g f m ms front kept none
carry_step s g f (message.Discovery d ∷ ms) kept front none = step_discovery s g f d ms kept front none

pick_step : (s : Components) (f : ℕ) (p : Pick) → Inv s → refusal (components_seen s) (Tick f) ≡ None → PickFacts (s.controls f) (s.row f) (s.ro f) (s.tso f) (local_bound s f) p → IsKeptStep s (Tick f) (pick_outcome s f p)
pick_step s f NoPick inv none facts = step_no_pick s f inv.kept facts.0 facts.1 none
pick_step s f (PickControl (ToDiscover from d) rest) inv none facts = step_discover s f rest inv.kept from d facts none
pick_step s f (PickControl (ToRetract e) rest) inv none facts = step_request s f rest inv.kept e facts none
pick_step s f (PickControl (ToTell n) rest) inv none facts = step_tell s f rest n inv.kept facts none
pick_step s f (PickRo e rest) inv none facts = step_ro s f e rest inv.kept facts.1 inv.laws facts.0 facts.2 none
pick_step s f PickRegulates inv none facts = step_regulates s f inv.kept facts.0 none facts.1
pick_step s f PickConstrains inv none facts = step_constrains s f inv.kept (ticker_joined (components_seen s) f none) facts.0 none (facts.1, facts.2, facts.3)
pick_step s f (PickTso q e rest) inv none facts = step_tso s f q e rest inv.kept facts.1 inv.laws (ticker_joined (components_seen s) f none) facts.0 none
pick_step s f (PickGrant q t) inv none facts = step_grant s f q t inv.kept facts.1 (ticker_joined (components_seen s) f none) facts.0 none

done_step : (s : Components) (step : Step) → Inv s → refusal (components_seen s) step ≡ None → IsKeptStep s step (step_outcome s step)
done_step s (Join name) inv none = step_join s name inv.kept none
done_step s (Call f x) inv none = call_step s f x inv none
done_step s (Carry g f) inv none = carry_step s g f (s.wire g f) inv.kept refl none
done_step s (Announce f) inv none = step_announce s f inv.kept none
done_step s (Tick f) inv none = pick_step s f _ inv none (pick_tells (s.controls f) (s.row f) (s.ro f) (s.tso f) (local_bound s f))

-- ---- any step
-- the laws of the machine are kept by each of its steps
with_laws : (s : Components) (step : Step) (o : Outcomes) → Inv s → IsChoice step o.outcome o.choice → EpochInv o.state → IsKeptStep s step o → IsStep s step o
with_laws s step o inv chosen epochs k = record {
  kept = record {
    kept = k.kept;
    laws = subst CentralInv (sym k.follows) (laws_after (central s) step o.outcome o.choice k.allowed inv.laws);
    numbers = subst (λ (c : Central). AllNumbers c.row) (sym k.follows) (numbers_after (central s) step o.outcome o.choice k.allowed inv.numbers);
    epochs = epochs;
  };
  machine = record { allowed = (k.allowed, chosen); follows = k.follows };
}

refused_or : (s : Components) (step : Step) (o : Option Fault) → refusal (components_seen s) step ≡ o → Inv s → IsStep s step (unless_refused o s (step_outcome s step))
refused_or s step None is inv = with_laws s step (step_outcome s step) inv (step_choice s step inv.kept) (done_counts s step inv.kept is inv.epochs) (done_step s step inv is)
refused_or s step (Some e) is inv = record { kept = inv; machine = record { allowed = (is, refused_choice step e); follows = refl } }

pub each_step : (s : Components) (step : Step) → Inv s → IsStep s step (next s step)
each_step s step inv = refused_or s step (refusal (components_seen s) step) refl inv

-- ---- lists of steps
pub is_run : (s : Components) (steps : List Step) → Inv s → IsRun (central s) (happenings s steps) (central (state_after s steps))
is_run s [] inv = refl
is_run s (step ∷ steps) inv =
    let one = each_step s step inv in
    (one.machine.allowed, subst (λ d. IsRun d (happenings (next s step).state steps) (central (state_after (next s step).state steps))) one.machine.follows (is_run (next s step).state steps one.kept))

-- ---- the beginning
pub inv_start : (catalogue : CatalogueValue) → Inv (new_components catalogue)
unfolding occurrences events find_event retractions
inv_start catalogue = record {
  kept = record {
    directory = directory_start catalogue;
    wired = λ _ _ _. refl;
    time = record {
      queues = λ _. tt;
      ordered = λ _. tt;
      ahead = λ _ _. tt;
      wires = λ _ _ e. absurd (cc);
      epochs = λ _ _ _. refl;
      regulators = λ _ e. absurd (cc);
      promised = λ _ e. absurd (cc);
      bars = λ _ e. absurd (cc);
      rows = λ _. row_start;
    };
    copies = record { once = λ _ _ _. omega arith; unused = λ _ _ _ _. refl; serials = λ _ _. tt; rising = λ _ _. tt; earlier = λ _ _. tt };
    objects = record { tells = λ _ _. tt; ordered = λ _. tt; plain = λ _. tt; due = λ _. tt };
  };
  laws = record {
    stamped = λ _ _ _ _ e. absurd (cc);
    plain = λ _ _ _ _ e. absurd (cc);
    followed = λ _ _ _ _ e. absurd (cc);
    told = λ _ _ _ _ e. absurd (cc);
    marked = λ _ _ r. absurd (cc);
    unsent = λ _ _ _. refl;
    unused = λ _ _ _ _ e. absurd (cc);
  };
  numbers = λ _. numbers_new;
  epochs = counts_start catalogue;
}

-- it is the beginning of the machine
pub central_start : (catalogue : CatalogueValue) → central (new_components catalogue) ≡ new_central catalogue
unfolding events find_event retractions discoveries discoveries_from dues notices_in
central_start catalogue = central_ext _ _ refl refl refl refl (bag_ext _ _ (λ _ _ _. refl)) (λ _ _. refl) (λ _ _ _. refl) (λ _ _ _. refl) (λ _. refl)

-- what the components do from the beginning on is a run of the machine
pub start_run : (catalogue : CatalogueValue) (steps : List Step) → IsRun (new_central catalogue) (happenings (new_components catalogue) steps) (central (state_after (new_components catalogue) steps))
start_run catalogue steps =
    let s = new_components catalogue in
    subst (λ c. IsRun c (happenings s steps) (central (state_after s steps))) (central_start catalogue) (is_run s steps (inv_start catalogue))

pub inv_after : (s : Components) (steps : List Step) → Inv s → Inv (state_after s steps)
inv_after s [] inv = inv
inv_after s (step ∷ steps) inv = inv_after (next s step).state steps (each_step s step inv).kept

pub each_inv : (catalogue : CatalogueValue) (steps : List Step) → Inv (state_after (new_components catalogue) steps)
each_inv catalogue steps = inv_after (new_components catalogue) steps (inv_start catalogue)

pub each_counts : (catalogue : CatalogueValue) (steps : List Step) → CountsEnablings (state_after (new_components catalogue) steps)
each_counts catalogue steps = (each_inv catalogue steps).epochs.counted

pub each_happens : (catalogue : CatalogueValue) (steps : List Step) (step : Step) → (let now = state_after (new_components catalogue) steps in Happens (central now) (happening step (next now step)))
each_happens catalogue steps step = record {
  catalogue = catalogue;
  before = happenings (new_components catalogue) steps;
  run = start_run catalogue steps;
  allowed = (each_step (state_after (new_components catalogue) steps) step (each_inv catalogue steps)).machine.allowed;
}

pub each_ahead : (catalogue : CatalogueValue) (steps : List Step) (step : Step) (f : ℕ) → IsAhead (central (state_after (new_components catalogue) steps)) (happening step (next (state_after (new_components catalogue) steps) step)) f
each_ahead catalogue steps step f =
    let s = state_after (new_components catalogue) steps in
    run_ahead (central s) (happening step (next s step)) f (each_happens catalogue steps step)

pub each_later : (catalogue : CatalogueValue) (before between : List Step) (step : Step) → (let sent = state_after (new_components catalogue) before in let now = state_after sent between in HappensLater (central sent) (happenings sent between) (central now) (happening step (next now step)))
each_later catalogue before between step =
    let sent = state_after (new_components catalogue) before in
    let now = state_after sent between in
    record {
      catalogue = catalogue;
      before = happenings (new_components catalogue) before;
      start = start_run catalogue before;
      run = is_run sent between (each_inv catalogue before);
      allowed = (each_step now step (inv_after sent between (each_inv catalogue before))).machine.allowed;
    }

pub each_after : (catalogue : CatalogueValue) (before : List Step) (step : Step) (between : List Step) (later : Step)
    → (let now = state_after (new_components catalogue) before in let then = state_after (next now step).state between in
    HappenAfter (central now) (happening step (next now step)) (happenings (next now step).state between) (central then) (happening later (next then later)))
each_after catalogue before step between later =
    let now = state_after (new_components catalogue) before in
    let then = state_after (next now step).state between in
    let one = each_step now step (each_inv catalogue before) in
    record {
      first = record {
        catalogue = catalogue;
        before = happenings (new_components catalogue) before;
        run = start_run catalogue before;
        allowed = one.machine.allowed;
      };
      run = subst (λ c. IsRun c (happenings (next now step).state between) (central then)) one.machine.follows (is_run (next now step).state between one.kept);
      allowed = (each_step then later (inv_after (next now step).state between one.kept)).machine.allowed;
    }

pub each_safe : (catalogue : CatalogueValue) (steps : List Step) → IsSafe (central (state_after (new_components catalogue) steps))
each_safe catalogue steps =
    let s = new_components catalogue in
    run_safe catalogue (happenings s steps) (central (state_after s steps)) (start_run catalogue steps)

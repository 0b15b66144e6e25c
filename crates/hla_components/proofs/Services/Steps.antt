-- Steps that change the directory alone, sends, and what arrives
use Rattle.std.proofs.Common.{◌≡◌, ℕ, ◌+◌, ◌≤◌, max, cond, ltb, not, ◌&&◌, Bool, true, false, refl, sym, le_trans, ap, ◌∙◌, subst, ⊎_elim, arith, List, [], ◌∷◌, ◌++◌, Option, Some, None, unwrap_or}
use Rattle.std.proofs.lemmas.Bool.{cond_both, and_parts, and_from, and_cases, or_parts, cases_Bool, ltb-false, lt-ltb}
use Rattle.hla_base.specs.declared.content.Content.{Content}
use Rattle.hla_base.specs.declared.content.Event.{Event}
use Rattle.hla_base.specs.declared.content.HandleValuePair.{HandleValuePair}
use Rattle.hla_base.specs.declared.row.TimeRow.{TimeRow}
use Rattle.hla_base.specs.declared.row.Role.{Role}
use Rattle.hla_base.specs.declared.row.Role.TheVariants.{Disabled, Pending, Enabled}
use Rattle.hla_base.specs.declared.row.AdvanceRequest.{AdvanceRequest}
use Rattle.hla_catalogue.specs.declared.declared.Order.{Order}
use Rattle.hla_null_message.specs.declared.message.Message.{Message}
use Rattle.hla_null_message.specs.declared.message.Message.TheVariants as message
use Rattle.hla_base.specs.Tables.{is_other, upd2, upd_row, when}
use Rattle.hla_base.specs.Rows.{is_regulator, is_constrained, is_enabled, is_disabled, is_next, keep_if, width, least_stamp, least_stamp_in}
use Rattle.hla_machine.specs.declared.service.Service.TheVariants as service
use Rattle.hla_machine.specs.declared.step.Step.TheVariants.{Call, Carry}
use Rattle.hla_machine.specs.declared.step.Answer.TheVariants as answer
use Rattle.hla_machine.specs.declared.step.Carried.TheVariants as carried
use Rattle.hla_machine.specs.declared.step.Outcome.TheVariants as outcome
use Rattle.hla_machine.specs.declared.step.Choice.TheVariants as choice
use Rattle.hla_machine.specs.Machine.{is_removal, after_arrival, IsCarriedCopy}
use Rattle.hla_machine.specs.Directory.{Directory, Outgoing, AnInteraction, content_for, interaction_sent, by_handle}
use Rattle.hla_machine.specs.Sends.{is_ordered, kept_stamp, is_some_ordered}
use Rattle.hla_machine.specs.Sends as machine
use Rattle.hla_machine.specs.Refusals.{refusal, is_bad_stamp}
use Rattle.hla_machine.proofs.Basics.Tests.{caller_joined, clear_call}
use Rattle.hla_null_message.specs.Wires.{events, discoveries, retractions, put_behind}
use Rattle.hla_component_rules.specs.Controls.{discoveries_from}
use Rattle.hla_component_rules.specs.Queues.{handle_of}
use Rattle.hla_components.specs.Components.{Components}
use Rattle.hla_null_message.specs.Promise.{promise_in}
use Rattle.hla_components.specs.Next.{with_directory, put_event, event_of, with_message_sent, with_messages_sent, step_outcome, components_seen, carry_outcome, with_event_accepted}
use Rattle.hla_components.specs.CentralOf.{central, bag_of, wire_copy}
use Rattle.hla_components.specs.Invariant.{IsTold, Tells, IsWired, is_wire, EachOf, TimeInv, Kept, DirectoryInv}
use Rattle.hla_components.specs.Headline.{IsKeptStep}
use Rattle.hla_base.proofs.Tables.{upd_row_each, upd2_each}
use Rattle.hla_components.proofs.Wiring.Wires.{discoveries-put_event, discoveries-event, retractions-put_event, retractions-event, retractions-null, discoveries-null, events-null}
use Rattle.hla_components.proofs.Upkeep.Times.{CarriesIn, time_sent, time_event_came, time_null_came}
use Rattle.hla_components.proofs.Wiring.Copies.{copies_sent, copies_wires, copies_event_came}
use Rattle.hla_components.proofs.Upkeep.Objects.{KeepsOwners, objects_grow, objects_wires, objects_event_came, objects_null_taken, tells_send}
use Rattle.hla_components.proofs.Upkeep.Directories.{directory_published, directory_published_interaction, directory_subscribed_interaction, directory_unsubscribed, directory_ordered, directory_reordered}
use Rattle.hla_components.proofs.Upkeep.Bounds.{wire_from}
use Rattle.hla_machine.proofs.Basics.Bags.{option_map-some, central_ext}
use Rattle.hla_components.proofs.Basics.Each.{EachOf-weaker}
use Rattle.hla_components.proofs.Wiring.Bags.{bag_sent, bag_same_wires, bag_event, copy_came}

-- ---- the directory alone
pub kept_directory : (s : Components) (d : Directory) → Kept s → DirectoryInv d → KeepsOwners s.directory d → d.joined ≡ s.directory.joined → d.next_federate ≡ s.directory.next_federate → Kept (with_directory s d)
kept_directory s d kept inv up joined numbers = record {
  directory = inv;
  wired = subst (λ (n : ℕ). (g f : ℕ) → (ltb g n && is_other d.joined g f) ≡ false → s.wire g f ≡ []) (sym numbers)
      (subst (λ (j : ℕ → Bool). (g f : ℕ) → (ltb g s.directory.next_federate && is_other j g f) ≡ false → s.wire g f ≡ []) (sym joined) kept.wired);
  time = subst (λ (n : ℕ). TimeInv n d.joined s.row s.serial s.tso s.wire s.bound s.known_epoch s.last_announced s.epoch s.sent) (sym numbers)
      (subst (λ (j : ℕ → Bool). TimeInv s.directory.next_federate j s.row s.serial s.tso s.wire s.bound s.known_epoch s.last_announced s.epoch s.sent) (sym joined) kept.time);
  copies = kept.copies;
  objects = objects_grow s.directory d s.wire s.tso s.ro s.controls up kept.objects;
}

-- the same members, objects and subscriptions of object classes
steady : (s : Components) (d : Directory) → (h : (g : ℕ) → (d.object g).owner ≡ (s.directory.object g).owner) → ((h f : ℕ) → s.directory.known h f ≡ true → d.known h f ≡ true) → s.directory.next_object ≤ d.next_object → KeepsOwners s.directory d
steady s d owner known more = record { same_owner = λ h _. owner h; same_known = known; more = more }

module _ (s : Components) (f class : ℕ) (kept : Kept s) where
  pub step_publish_class : (attributes : List ℕ) → refusal (components_seen s) (Call f (service.PublishObjectClass class attributes)) ≡ None
      → IsKeptStep s (Call f (service.PublishObjectClass class attributes)) (step_outcome s (Call f (service.PublishObjectClass class attributes)))
  step_publish_class attributes none = record {
    kept = kept_directory s _ kept (directory_published s.directory f class (Some attributes) kept.directory) (steady s _ (λ _. refl) (λ _ _ k. k) (omega arith)) refl refl;
    allowed = (none, tt);
    follows = refl;
  }

  pub step_unpublish_class : refusal (components_seen s) (Call f (service.UnpublishObjectClass class)) ≡ None → IsKeptStep s (Call f (service.UnpublishObjectClass class)) (step_outcome s (Call f (service.UnpublishObjectClass class)))
  step_unpublish_class none = record {
    kept = kept_directory s _ kept (directory_published s.directory f class None kept.directory) (steady s _ (λ _. refl) (λ _ _ k. k) (omega arith)) refl refl;
    allowed = (none, tt);
    follows = refl;
  }

  pub step_unsubscribe_class : refusal (components_seen s) (Call f (service.UnsubscribeObjectClass class)) ≡ None → IsKeptStep s (Call f (service.UnsubscribeObjectClass class)) (step_outcome s (Call f (service.UnsubscribeObjectClass class)))
  step_unsubscribe_class none = record {
    kept = kept_directory s _ kept (directory_unsubscribed s.directory f class kept.directory (caller_joined (components_seen s) f (service.UnsubscribeObjectClass class) none)) (steady s _ (λ _. refl) (λ _ _ k. k) (omega arith)) refl refl;
    allowed = (none, tt);
    follows = refl;
  }

  pub step_publish_interaction : refusal (components_seen s) (Call f (service.PublishInteractionClass class)) ≡ None → IsKeptStep s (Call f (service.PublishInteractionClass class)) (step_outcome s (Call f (service.PublishInteractionClass class)))
  step_publish_interaction none = record {
    kept = kept_directory s _ kept (directory_published_interaction s.directory f class true kept.directory) (steady s _ (λ _. refl) (λ _ _ k. k) (omega arith)) refl refl;
    allowed = (none, tt);
    follows = refl;
  }

  pub step_unpublish_interaction : refusal (components_seen s) (Call f (service.UnpublishInteractionClass class)) ≡ None → IsKeptStep s (Call f (service.UnpublishInteractionClass class)) (step_outcome s (Call f (service.UnpublishInteractionClass class)))
  step_unpublish_interaction none = record {
    kept = kept_directory s _ kept (directory_published_interaction s.directory f class false kept.directory) (steady s _ (λ _. refl) (λ _ _ k. k) (omega arith)) refl refl;
    allowed = (none, tt);
    follows = refl;
  }

  pub step_subscribe_interaction : refusal (components_seen s) (Call f (service.SubscribeInteractionClass class)) ≡ None → IsKeptStep s (Call f (service.SubscribeInteractionClass class)) (step_outcome s (Call f (service.SubscribeInteractionClass class)))
  step_subscribe_interaction none = record {
    kept = kept_directory s _ kept (directory_subscribed_interaction s.directory f class true kept.directory) (steady s _ (λ _. refl) (λ _ _ k. k) (omega arith)) refl refl;
    allowed = (none, tt);
    follows = refl;
  }

  pub step_unsubscribe_interaction : refusal (components_seen s) (Call f (service.UnsubscribeInteractionClass class)) ≡ None → IsKeptStep s (Call f (service.UnsubscribeInteractionClass class)) (step_outcome s (Call f (service.UnsubscribeInteractionClass class)))
  step_unsubscribe_interaction none = record {
    kept = kept_directory s _ kept (directory_subscribed_interaction s.directory f class false kept.directory) (steady s _ (λ _. refl) (λ _ _ k. k) (omega arith)) refl refl;
    allowed = (none, tt);
    follows = refl;
  }

  pub step_interaction_order : (order : Order) → refusal (components_seen s) (Call f (service.ChangeInteractionOrderType class order)) ≡ None
      → IsKeptStep s (Call f (service.ChangeInteractionOrderType class order)) (step_outcome s (Call f (service.ChangeInteractionOrderType class order)))
  step_interaction_order order none = record {
    kept = kept_directory s _ kept (directory_ordered s.directory f class order kept.directory) (steady s _ (λ _. refl) (λ _ _ k. k) (omega arith)) refl refl;
    allowed = (none, tt);
    follows = refl;
  }

pub step_attribute_orders : (s : Components) (f object : ℕ) (attributes : List ℕ) (order : Order) → Kept s → refusal (components_seen s) (Call f (service.ChangeAttributeOrderType object attributes order)) ≡ None
    → IsKeptStep s (Call f (service.ChangeAttributeOrderType object attributes order)) (step_outcome s (Call f (service.ChangeAttributeOrderType object attributes order)))
step_attribute_orders s f object attributes order kept none = record {
  kept = kept_directory s _ kept (directory_reordered s.directory object attributes order kept.directory) (steady s _ (λ _. refl) (λ _ _ k. k) (omega arith)) refl refl;
  allowed = (none, tt);
  follows = refl;
}

-- ---- sending
pub regulator_from : (r : Role) → is_enabled r ≡ true → not (is_disabled r) ≡ true
regulator_from Disabled e = absurd (cc)
regulator_from Pending e = refl
regulator_from Enabled e = refl

-- what a component may promise is at most what it may still send
pub fresh_le_least : (r : TimeRow) (o : Option AdvanceRequest) (b : Bool) (queued bound : ℕ) → promise_in r (when b (keep_if (λ q. is_next q.kind) o)) queued bound ≤ least_stamp_in r.floor r.lookahead o
fresh_le_least r None true queued bound = omega arith
fresh_le_least r None false queued bound = omega arith
fresh_le_least r (Some q) false queued bound = omega arith
fresh_le_least r (Some q) true queued bound = cond_both (is_next q.kind) (Some q) None (λ o. promise_in r o queued bound ≤ max r.floor (q.asked + width r.lookahead q.kind)) (λ _. omega arith) (λ _. omega arith)

pub last_le_least : (s : Components) (f : ℕ) → Kept s → is_regulator (s.row f) ≡ true → s.last_announced f ≤ least_stamp (s.row f)
last_le_least s f kept reg = le_trans (kept.time.promised f reg) (fresh_le_least (s.row f) (s.row f).advance (is_constrained (s.row f)) _ _)

-- the wires of a member change alone
pub wired_row : (s : Components) (f : ℕ) (put_behind : ℕ → List Message → List Message) → Kept s → s.directory.joined f ≡ true → IsWired s.directory (upd_row s.wire s.directory.joined f put_behind)
wired_row s f put_behind kept member = upd_row_each s.wire s.directory.joined f put_behind (λ g k ms. is_wire s.directory g k ≡ false → ms ≡ [])
    (λ k other n. let y : is_wire s.directory f k ≡ true = and_from _ _ (lt-ltb _ _ (kept.directory.members f member)) other in absurd (cc)) kept.wired

-- a message may be sent: in time-stamp order at or above the least stamp, and of objects that its receivers know
pub record IsSendable (s : Components) (f : ℕ) (stamp : Option ℕ) (out : Outgoing) : Type 0 where
  pub high : is_ordered (s.row f) stamp out ≡ true → least_stamp (s.row f) ≤ unwrap_or stamp 0
  pub told : (k : ℕ) (x : Content) → is_other s.directory.joined f k ≡ true → content_for s.directory out.body k ≡ Some x → IsTold s.directory f k x

module _ (s : Components) (f : ℕ) (stamp : Option ℕ) (out : Outgoing) where
  abbrev put_for : ℕ → List Message → List Message
  put_for g = put_event f (s.serial f) (s.row f) stamp out (content_for s.directory out.body g)

  kept_stamp_is : is_ordered (s.row f) stamp out ≡ true → kept_stamp (s.row f) stamp out ≡ unwrap_or stamp 0
  kept_stamp_is o = rw o refl

  is_sender : is_ordered (s.row f) stamp out ≡ true → is_regulator (s.row f) ≡ true
  is_sender o = regulator_from (s.row f).regulating (and_parts _ _ o).1

  put_tells : (k : ℕ) (o : Option Content) → ((x : Content) → o ≡ Some x → IsTold s.directory f k x) → Tells s.directory f k (s.wire f k) → Tells s.directory f k (put_event f (s.serial f) (s.row f) stamp out o (s.wire f k))
  put_tells k None told t = t
  put_tells k (Some x) told t = tells_send s.directory f k (s.wire f k) (event_of f (s.serial f) (s.row f) stamp out x) (told x refl) t

  put_discoveries_same : (o : Option Content) (ms : List Message) → discoveries ms ≡ discoveries (put_event f (s.serial f) (s.row f) stamp out o ms)
  put_discoveries_same None ms = refl
  put_discoveries_same (Some x) ms = sym (discoveries-put_event (event_of f (s.serial f) (s.row f) stamp out x) ms)

  put_retractions_same : (m : ℕ) (o : Option Content) (ms : List Message) → retractions m (put_event f (s.serial f) (s.row f) stamp out o ms) ≡ retractions m ms
  put_retractions_same m None ms = refl
  put_retractions_same m (Some x) ms = retractions-put_event (event_of f (s.serial f) (s.row f) stamp out x) m ms

  sent_discoveries : (g k : ℕ) → discoveries (s.wire g k) ≡ discoveries (upd_row s.wire s.directory.joined f put_for g k)
  sent_discoveries = upd_row_each s.wire s.directory.joined f put_for (λ g k ms. discoveries (s.wire g k) ≡ discoveries ms) (λ k _. put_discoveries_same (content_for s.directory out.body k) (s.wire f k)) (λ _ _. refl)

  sent_retractions : (g m k : ℕ) → retractions m (upd_row s.wire s.directory.joined f put_for g k) ≡ retractions m (s.wire g k)
  sent_retractions g m k = upd_row_each s.wire s.directory.joined f put_for (λ g k ms. retractions m ms ≡ retractions m (s.wire g k)) (λ k _. put_retractions_same m (content_for s.directory out.body k) (s.wire f k)) (λ _ _. refl) g k

  pub kept_sent : Kept s → s.directory.joined f ≡ true → IsSendable s f stamp out → Kept (with_message_sent s f stamp out)
  kept_sent kept member may = record {
    directory = kept.directory;
    wired = wired_row s f put_for kept member;
    time = time_sent s f stamp out kept.time (λ o. (is_sender o, subst (λ t. s.last_announced f ≤ t) (sym (kept_stamp_is o)) (le_trans (last_le_least s f kept (is_sender o)) (may.high o))));
    copies = copies_sent s f stamp out kept.copies;
    objects = objects_wires s.directory s.wire _ s.tso s.ro s.controls
        (upd_row_each s.wire s.directory.joined f put_for (Tells s.directory) (λ k other. put_tells k (content_for s.directory out.body k) (λ x is. may.told k x other is) (kept.objects.tells f k)) kept.objects.tells)
        sent_discoveries kept.objects;
  }

  pub central_sent : Kept s → central (with_message_sent s f stamp out) ≡ machine.after_message (central s) f stamp out
  central_sent kept = central_ext _ _ refl refl refl refl (bag_sent s f stamp out kept.copies) (λ g k. ap (λ ds. discoveries_from g (s.controls k) ++ ds) (sym (sent_discoveries g k))) sent_retractions (λ _ _ _. refl) (λ _. refl)

pub kept_sent_all : (s : Components) (f : ℕ) (stamp : Option ℕ) (outs : List Outgoing) → Kept s → s.directory.joined f ≡ true → EachOf (IsSendable s f stamp) outs → Kept (with_messages_sent s f stamp outs)
kept_sent_all s f stamp [] kept member may = kept
kept_sent_all s f stamp (out ∷ outs) kept member may = kept_sent_all (with_message_sent s f stamp out) f stamp outs (kept_sent s f stamp out kept member may.0) member
    (EachOf-weaker (IsSendable s f stamp) (IsSendable (with_message_sent s f stamp out) f stamp) outs (λ (o : Outgoing) (m : IsSendable s f stamp o). record { high = m.high; told = m.told }) may.1)

pub central_sent_all : (s : Components) (f : ℕ) (stamp : Option ℕ) (outs : List Outgoing) → Kept s → s.directory.joined f ≡ true → EachOf (IsSendable s f stamp) outs → central (with_messages_sent s f stamp outs) ≡ machine.after_messages (central s) f stamp outs
central_sent_all s f stamp [] kept member may = refl
central_sent_all s f stamp (out ∷ outs) kept member may =
    central_sent_all (with_message_sent s f stamp out) f stamp outs (kept_sent s f stamp out kept member may.0) member
    (EachOf-weaker (IsSendable s f stamp) (IsSendable (with_message_sent s f stamp out) f stamp) outs (λ (o : Outgoing) (m : IsSendable s f stamp o). record { high = m.high; told = m.told }) may.1)
    ∙ ap (λ c. machine.after_messages c f stamp outs) (central_sent s f stamp out kept)

-- a stamp that is not bad is high enough for each part in time-stamp order
high_each : (r : TimeRow) (stamp : Option ℕ) (outs : List Outgoing) → (is_some_ordered r stamp outs ≡ true → least_stamp r ≤ unwrap_or stamp 0) → EachOf (λ (out : Outgoing). is_ordered r stamp out ≡ true → least_stamp r ≤ unwrap_or stamp 0) outs
high_each r stamp [] h = tt
high_each r stamp (out ∷ outs) h = (
  (λ o. h (rw o refl)),
  high_each r stamp outs (λ some. h (cond_both (is_ordered r stamp out) true (is_some_ordered r stamp outs) (λ b. b ≡ true) (λ _. refl) (λ _. some))),
)

pub high_stamps : (r : TimeRow) (stamp : Option ℕ) (outs : List Outgoing) → is_bad_stamp r stamp outs ≡ false → EachOf (λ (out : Outgoing). is_ordered r stamp out ≡ true → least_stamp r ≤ unwrap_or stamp 0) outs
high_stamps r stamp outs fine = high_each r stamp outs (λ some. ⊎_elim
    (λ (n : is_some_ordered r stamp outs ≡ false). absurd (cc))
    (λ (n : ltb (unwrap_or stamp 0) (least_stamp r) ≡ false). ltb-false _ _ n)
    (and_cases _ _ (or_parts _ _ fine).1))

-- an interaction speaks of no object
interaction_told : (d : Directory) (f k class : ℕ) (values : List HandleValuePair) (x : Content) → content_for d (AnInteraction class values) k ≡ Some x → IsTold d f k x
interaction_told d f k class values x is = let w = option_map-some _ _ x is in subst (IsTold d f k) w.2 tt

pub step_send_interaction : (s : Components) (f class : ℕ) (values : List HandleValuePair) (stamp : Option ℕ) → Kept s → refusal (components_seen s) (Call f (service.SendInteraction class values stamp)) ≡ None
    → IsKeptStep s (Call f (service.SendInteraction class values stamp)) (step_outcome s (Call f (service.SendInteraction class values stamp)))
step_send_interaction s f class values stamp kept none =
    let outs = interaction_sent s.directory f class values in
    let member = caller_joined (components_seen s) f (service.SendInteraction class values stamp) none in
    let clear = clear_call (components_seen s) f (service.SendInteraction class values stamp) none in
    let fine : is_bad_stamp (s.row f) stamp outs ≡ false = clear.1.1.1.0 in
    let may : EachOf (IsSendable s f stamp) outs = (record { high = (high_stamps (s.row f) stamp outs fine).0; told = λ k x _ is. interaction_told s.directory f k class (by_handle values) x is }, tt) in
    record {
      kept = kept_sent_all s f stamp outs kept member may;
      allowed = (none, refl);
      follows = central_sent_all s f stamp outs kept member may;
    }

-- ---- what arrives
-- a wire that loses its first message
pub wired_taken : (s : Components) (g f : ℕ) (m : Message) (ms : List Message) → Kept s → s.wire g f ≡ m ∷ ms → (is_wire s.directory g f ≡ true) × IsWired s.directory (upd2 s.wire g f ms)
wired_taken s g f m ms kept front = (wire, upd2_each s.wire g f ms (λ g f ns. is_wire s.directory g f ≡ false → ns ≡ []) (λ n. let y : is_wire s.directory g f ≡ true = wire in absurd (cc)) kept.wired)
  where
    wire : is_wire s.directory g f ≡ true
    wire = ⊎_elim (λ (y : is_wire s.directory g f ≡ true). y) (λ (n : is_wire s.directory g f ≡ false). absurd (let e : s.wire g f ≡ [] = kept.wired g f n in let e2 : m ∷ ms ≡ [] = rw front at e in cc)) (cases_Bool (is_wire s.directory g f))

-- the other tables of the central state
taken_discoveries : (s : Components) (g f : ℕ) (m : Message) (ms : List Message) → s.wire g f ≡ m ∷ ms → discoveries (m ∷ ms) ≡ discoveries ms → (h k : ℕ) → discoveries (upd2 s.wire g f ms h k) ≡ discoveries (s.wire h k)
taken_discoveries s g f m ms front same = upd2_each s.wire g f ms (λ h k ns. discoveries ns ≡ discoveries (s.wire h k)) (rw front (sym same)) (λ _ _. refl)

taken_retractions : (s : Components) (g f : ℕ) (m : Message) (ms : List Message) → s.wire g f ≡ m ∷ ms → ((n : ℕ) → retractions n (m ∷ ms) ≡ retractions n ms) → (h n k : ℕ) → retractions n (upd2 s.wire g f ms h k) ≡ retractions n (s.wire h k)
taken_retractions s g f m ms front same h n k = upd2_each s.wire g f ms (λ h k ns. retractions n ns ≡ retractions n (s.wire h k)) (rw front (sym (same n))) (λ _ _. refl) h k

event_step : (s : Components) (g f : ℕ) (e : Event) (ms : List Message) → Kept s → s.wire g f ≡ message.Event e ∷ ms → refusal (components_seen s) (Carry g f) ≡ None → (b : Bool) → is_removal e.content ≡ b
    → IsKeptStep s (Carry g f) (record { outcome = outcome.Done (answer.Carried (cond b (carried.Removal (handle_of e)) (carried.Event (handle_of e)))); choice = choice.None; state = with_event_accepted s g f e ms })
event_step s g f e ms kept front none b is =
    let wired = wired_taken s g f (message.Event e) ms kept front in
    let at : CarriesIn s g f (message.Event e ∷ ms) = rw front at (kept.time.wires g f) in
    let same : central (with_event_accepted s g f e ms) ≡ after_arrival (central s) g f e.serial = central_ext _ _ refl refl refl refl (bag_event s g f e ms kept.copies front at.1)
    (λ h k. ap (λ ds. discoveries_from h (s.controls k) ++ ds) (taken_discoveries s g f (message.Event e) ms front (discoveries-event e ms) h k))
    (taken_retractions s g f (message.Event e) ms front (λ n. retractions-event e n ms)) (λ _ _ _. refl) (λ _. refl) in
    let copy : IsCarriedCopy (central s) g f (handle_of e) b = (at.1, (wire_copy e, subst (λ h. bag_of s h e.serial f ≡ Some (wire_copy e)) (sym at.1) (copy_came s g f e ms kept.copies front at.1), is)) in
    let all : Kept (with_event_accepted s g f e ms) = record {
      directory = kept.directory;
      wired = wired.1;
      time = time_event_came s g f e ms kept.time (wire_from s g f wired.0) front;
      copies = copies_event_came s g f e ms kept.copies front at.1;
      objects = objects_event_came s g f e ms kept.objects front at.1;
    } in
    match_removal b all copy same
  where
    match_removal : (b : Bool) → Kept (with_event_accepted s g f e ms) → IsCarriedCopy (central s) g f (handle_of e) b → central (with_event_accepted s g f e ms) ≡ after_arrival (central s) g f e.serial
        → IsKeptStep s (Carry g f) (record { outcome = outcome.Done (answer.Carried (cond b (carried.Removal (handle_of e)) (carried.Event (handle_of e)))); choice = choice.None; state = with_event_accepted s g f e ms })
    match_removal true all copy same = record { kept = all; allowed = (none, copy); follows = same }
    match_removal false all copy same = record { kept = all; allowed = (none, copy); follows = same }

pub step_event : (s : Components) (g f : ℕ) (e : Event) (ms : List Message) → Kept s → s.wire g f ≡ message.Event e ∷ ms → refusal (components_seen s) (Carry g f) ≡ None → IsKeptStep s (Carry g f) (carry_outcome s g f (message.Event e ∷ ms))
step_event s g f e ms kept front none = event_step s g f e ms kept front none (is_removal e.content) refl

pub step_null : (s : Components) (g f k v : ℕ) (ms : List Message) → Kept s → s.wire g f ≡ message.Null k v ∷ ms → refusal (components_seen s) (Carry g f) ≡ None → IsKeptStep s (Carry g f) (carry_outcome s g f (message.Null k v ∷ ms))
step_null s g f k v ms kept front none = record {
  kept = record {
    directory = kept.directory;
    wired = (wired_taken s g f (message.Null k v) ms kept front).1;
    time = time_null_came s g f k v ms kept.time front;
    copies = copies_wires s (upd2 s.wire g f ms) (upd2_each s.wire g f ms (λ g f ns. events ns ≡ events (s.wire g f)) (rw (front, events-null) refl) (λ _ _. refl)) kept.copies;
    objects = objects_null_taken s g f k v ms kept.objects front;
  };
  allowed = (none, tt);
  follows = central_ext _ _ refl refl refl refl (bag_same_wires s (upd2 s.wire g f ms) (upd2_each s.wire g f ms (λ g f ns. events ns ≡ events (s.wire g f)) (rw (front, events-null) refl) (λ _ _. refl)))
      (λ h l. ap (λ ds. discoveries_from h (s.controls l) ++ ds) (taken_discoveries s g f (message.Null k v) ms front (discoveries-null k v ms) h l))
      (taken_retractions s g f (message.Null k v) ms front (λ n. retractions-null k v n ms)) (λ _ _ _. refl) (λ _. refl);
}

pub step_nothing : (s : Components) (g f : ℕ) → Kept s → refusal (components_seen s) (Carry g f) ≡ None → IsKeptStep s (Carry g f) (carry_outcome s g f [])
step_nothing s g f kept none = record { kept = kept; allowed = (none, tt); follows = refl }

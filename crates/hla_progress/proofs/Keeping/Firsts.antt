-- Nothing waits before the first pick of a federate's advance
use Rattle.std.proofs.Common.{◌≡◌, ◌⊎◌, ℕ, ◌+◌, ◌≤◌, cond, ltb, not, ◌&&◌, Bool, true, false, refl, sym, ◌∙◌, subst, inl, inr, ⊎_elim, le_trans, arith, List, [], ◌∷◌, filter, Option, Some, None}
use Rattle.std.proofs.lemmas.Bool.{cond_both, and_parts, ltb-true}
use Rattle.hla_base.specs.declared.content.Event.{Event}
use Rattle.hla_base.specs.declared.fault.Fault.{Fault}
use Rattle.hla_base.specs.declared.row.AdvanceRequest.{AdvanceRequest}
use Rattle.hla_base.specs.declared.row.Role.TheVariants.{Disabled, Pending}
use Rattle.hla_base.specs.declared.row.TimeRow.{TimeRow}
use Rattle.hla_base.specs.Tables.{upd, or_else, is_other}
use Rattle.hla_base.specs.Rows.{is_flush, is_regulator, is_constrained, new_row, bar_after, row_after_request, row_with_entry, row_after_regulation_enabled, row_after_constraint_enabled, row_after_pick, row_after_grant}
use Rattle.hla_base.specs.declared.row.AdvanceKind.TheVariants as kind
use Rattle.hla_base.proofs.Tables.{upd_each, upd_same, upd_other, by_number, least_le}
use Rattle.hla_null_message.specs.declared.message.Message.{Message}
use Rattle.hla_null_message.specs.declared.message.Message.TheVariants as message
use Rattle.hla_component_rules.specs.declared.control.Control.TheVariants.{ToDiscover, ToRetract, ToTell}
use Rattle.hla_component_rules.specs.Queues.{insert_event, remove_event}
use Rattle.hla_component_rules.specs.Arriving.{is_kept_in_order}
use Rattle.hla_component_rules.specs.Picking.{Pick, NoPick, PickControl, PickRo, PickRegulates, PickConstrains, PickTso, PickGrant, is_below}
use Rattle.hla_machine.specs.declared.service.Service.{Service}
use Rattle.hla_machine.specs.declared.service.Service.TheVariants as service
use Rattle.hla_machine.specs.declared.service.ResignAction.TheVariants.{ReleaseAttributes, DeleteObjects, DeleteObjectsAndReleaseAttributes, NoAction}
use Rattle.hla_machine.specs.declared.step.Step.{Step}
use Rattle.hla_machine.specs.declared.step.Step.TheVariants.{Join, Call, Carry, Announce, Tick}
use Rattle.hla_machine.specs.declared.step.Answer.TheVariants as answer
use Rattle.hla_machine.specs.Directory.{Outgoing, objects_of, interaction_sent, update_sent, deletion_sent, deletions_sent}
use Rattle.hla_machine.specs.Refusals.{refusal}
use Rattle.hla_machine.proofs.Basics.Rows.{le_reach}
use Rattle.hla_components.specs.Components.{Components, new_components}
use Rattle.hla_components.specs.Component.{local_bound, promise, regulation_entry}
use Rattle.hla_components.specs.Next.{Outcomes, answer_outcome, next, step_outcome, call_outcome, carry_outcome, pick_outcome, announce_outcome, unless_refused, components_seen, with_null_announced, with_messages_sent, with_message_sent, with_federate_gone}
use Rattle.hla_components.specs.Invariant.{Above, Carries, IsTsoQueue, Inv, stamps}
use Rattle.hla_components.specs.Headline.{IsLedTo, state_after}
use Rattle.hla_components.proofs.Wiring.Queues.{Above-insert, Above-remove}
use Rattle.hla_components.proofs.Services.Steps.{wired_taken}
use Rattle.hla_components.proofs.Refinement.Picks.{PickFacts, TsoFacts, pick_tells}
use Rattle.hla_components.proofs.Refinement.Runs.{each_step, inv_start}

-- while a constrained federate advances, its bar is at or above its first pick, and so is all that waits
abbrev pub IsPastFirst : TimeRow → List Event → Type 0
IsPastFirst r tso = (q : AdvanceRequest) (p : ℕ) → is_constrained r ≡ true → r.advance ≡ Some q → r.first_pick ≡ Some p → (p ≤ r.bar) × Above p tso

abbrev pub KeepsFirsts : Components → Type 0
KeepsFirsts s = (f : ℕ) → IsPastFirst (s.row f) (s.tso f)

-- ---- rows
past_fresh : (r : TimeRow) (es : List Event) → r.first_pick ≡ None → IsPastFirst r es
past_fresh r es none q p con asks is = absurd (let no : None ≡ Some p = sym none ∙ is in cc)

past_free : (r : TimeRow) (es : List Event) → is_constrained r ≡ false → IsPastFirst r es
past_free r es free q p con asks is = absurd (cc)

past_idle : (r : TimeRow) (es : List Event) → r.advance ≡ None → IsPastFirst r es
past_idle r es idle q p con asks is = absurd (let no : None ≡ Some q = sym idle ∙ asks in cc)

picked_first : (b : Bool) (o : Option ℕ) (s p : ℕ) → cond b o (or_else o (Some s)) ≡ Some p → (o ≡ Some p) ⊎ ((b ≡ false) × (s ≡ p))
picked_first true o s p e = inl e
picked_first false (Some x) s p e = inl e
picked_first false None s p e = inr (refl, cc)

past_picked : (r : TimeRow) (k : AdvanceRequest) (e : Event) (rest : List Event) → IsTsoQueue (e ∷ rest) → IsPastFirst r (e ∷ rest) → IsPastFirst (row_after_pick r k e.stamp) rest
past_picked r k e rest sorted past q p con asks is = ⊎_elim
    (λ (old : r.first_pick ≡ Some p). let w = past q p con asks old in (cond_both (is_flush k.kind) r.bar (bar_after r k.kind e.stamp) (λ x. p ≤ x) (λ _. w.0) (λ _. omega (arith, w.0)), w.1.1))
    (λ (new : (is_flush k.kind ≡ false) × (e.stamp ≡ p)). (
      cond_both (is_flush k.kind) r.bar (bar_after r k.kind e.stamp) (λ x. p ≤ x) (λ y. let n = new.0 in absurd (cc)) (λ _. omega (arith, new.1, le_reach k.kind e.stamp)),
      subst (λ x. Above x rest) new.1 sorted.1,
    ))
    (picked_first (is_flush k.kind) r.first_pick e.stamp p is)

-- ---- one federate's row and queue change
module _ (s : Components) (k : KeepsFirsts s) where
  firsts_both : (f : ℕ) (r : TimeRow) (es : List Event) → IsPastFirst r es → (g : ℕ) → IsPastFirst (upd s.row f r g) (upd s.tso f es g)
  firsts_both f r es past = by_number f _ (rw (upd_same, upd_same) past) (λ g ne. rw (upd_other, upd_other) (k g))

  firsts_row : (f : ℕ) (r : TimeRow) → IsPastFirst r (s.tso f) → (g : ℕ) → IsPastFirst (upd s.row f r g) (s.tso g)
  firsts_row f r past = upd_each s.row f r (λ g y. IsPastFirst y (s.tso g)) past (λ g _. k g)

  firsts_queue : (f : ℕ) (es : List Event) → IsPastFirst (s.row f) es → (g : ℕ) → IsPastFirst (s.row g) (upd s.tso f es g)
  firsts_queue f es past = upd_each s.tso f es (λ g ys. IsPastFirst (s.row g) ys) past (λ g _. k g)

firsts_sent : (s : Components) (f : ℕ) (stamp : Option ℕ) (outs : List Outgoing) → KeepsFirsts s → KeepsFirsts (with_messages_sent s f stamp outs)
firsts_sent s f stamp [] k = k
firsts_sent s f stamp (out ∷ outs) k = firsts_sent (with_message_sent s f stamp out) f stamp outs k

firsts_gone : (s : Components) (f : ℕ) → KeepsFirsts s → KeepsFirsts (with_federate_gone s f)
firsts_gone s f k = firsts_both s k f new_row [] (past_fresh new_row [] refl)

-- ---- steps
module _ (s : Components) (f : ℕ) (k : KeepsFirsts s) (inv : Inv s) where
  call_firsts : (x : Service) → KeepsFirsts (call_outcome s f x).state
  call_firsts (service.Resign DeleteObjects) = firsts_gone (with_messages_sent s f None (deletions_sent (objects_of s.directory f))) f (firsts_sent s f None (deletions_sent (objects_of s.directory f)) k)
  call_firsts (service.Resign NoAction) = firsts_gone s f k
  call_firsts (service.Resign ReleaseAttributes) = k
  call_firsts (service.Resign DeleteObjectsAndReleaseAttributes) = k
  call_firsts (service.UpdateAttributeValues object values stamp) = firsts_sent s f stamp (update_sent s.directory object values) k
  call_firsts (service.SendInteraction class values stamp) = firsts_sent s f stamp (interaction_sent s.directory f class values) k
  call_firsts (service.DeleteObjectInstance object stamp) = firsts_sent s f stamp (deletion_sent s.directory object) k
  call_firsts (service.EnableTimeRegulation time lookahead) = firsts_row s k f (row_with_entry (s.row f) lookahead (regulation_entry s f (time + lookahead))) (k f)
  call_firsts service.DisableTimeRegulation = firsts_row s k f (record (s.row f) { regulating = Disabled }) (k f)
  call_firsts service.EnableTimeConstrained = firsts_row s k f (record (s.row f) { constrained = Pending }) (past_free (record (s.row f) { constrained = Pending }) (s.tso f) refl)
  call_firsts service.DisableTimeConstrained = firsts_both s k f (record (s.row f) { constrained = Disabled }) [] (past_free (record (s.row f) { constrained = Disabled }) [] refl)
  call_firsts (service.TimeAdvanceRequest time) = firsts_row s k f (row_after_request (s.row f) kind.TimeAdvance time) (past_fresh (row_after_request (s.row f) kind.TimeAdvance time) (s.tso f) refl)
  call_firsts (service.TimeAdvanceRequestAvailable time) = firsts_row s k f (row_after_request (s.row f) kind.TimeAdvanceAvailable time) (past_fresh (row_after_request (s.row f) kind.TimeAdvanceAvailable time) (s.tso f) refl)
  call_firsts (service.NextEventRequest time) = firsts_row s k f (row_after_request (s.row f) kind.NextEvent time) (past_fresh (row_after_request (s.row f) kind.NextEvent time) (s.tso f) refl)
  call_firsts (service.NextEventRequestAvailable time) = firsts_row s k f (row_after_request (s.row f) kind.NextEventAvailable time) (past_fresh (row_after_request (s.row f) kind.NextEventAvailable time) (s.tso f) refl)
  call_firsts (service.FlushQueueRequest time) = firsts_row s k f (row_after_request (s.row f) kind.FlushQueue time) (past_fresh (row_after_request (s.row f) kind.FlushQueue time) (s.tso f) refl)
  call_firsts (service.ModifyLookahead lookahead) = firsts_row s k f (record (s.row f) { lookahead = lookahead }) (k f)
  call_firsts service.EnableAsynchronousDelivery = firsts_row s k f (record (s.row f) { asynchronous = true }) (k f)
  call_firsts service.DisableAsynchronousDelivery = firsts_row s k f (record (s.row f) { asynchronous = false }) (k f)
  call_firsts x = k

  announce_firsts : KeepsFirsts (announce_outcome s f).state
  announce_firsts = cond_both (is_regulator (s.row f) && ltb (s.last_announced f) (promise s f))
      (answer_outcome (answer.Announced (Some (promise s f))) (with_null_announced s f (promise s f)))
      (answer_outcome (answer.Announced None) s) (λ (o : Outcomes). KeepsFirsts o.state) (λ _. k) (λ _. k)

  taken_firsts : (q : AdvanceRequest) (e : Event) (rest : List Event) → TsoFacts (s.row f) (s.tso f) (local_bound s f) q e rest → IsPastFirst (row_after_pick (s.row f) q e.stamp) rest
  taken_firsts q e rest facts = past_picked (s.row f) q e rest (subst IsTsoQueue facts.front (inv.kept.time.queues f)) (subst (λ es. IsPastFirst (s.row f) es) facts.front (k f))

  pick_firsts : (p : Pick) → PickFacts (s.controls f) (s.row f) (s.ro f) (s.tso f) (local_bound s f) p → KeepsFirsts (pick_outcome s f p).state
  pick_firsts NoPick facts = k
  pick_firsts (PickControl (ToDiscover from d) rest) facts = k
  pick_firsts (PickControl (ToRetract e) rest) facts = k
  pick_firsts (PickControl (ToTell n) rest) facts = k
  pick_firsts (PickRo e rest) facts = k
  pick_firsts PickRegulates facts = firsts_row s k f (row_after_regulation_enabled (s.row f)) (k f)
  pick_firsts PickConstrains facts = let early = filter (λ e. not (is_below (s.row f).time e)) (s.tso f) in firsts_both s k f (row_after_constraint_enabled (s.row f)) early (past_idle (row_after_constraint_enabled (s.row f)) early ((inv.kept.time.rows f).resting facts.1))
  pick_firsts (PickTso q e rest) facts = firsts_both s k f (row_after_pick (s.row f) q e.stamp) rest (taken_firsts q e rest facts.1)
  pick_firsts (PickGrant q t) facts = firsts_row s k f (row_after_grant (s.row f) q t) (past_idle (row_after_grant (s.row f) q t) (s.tso f) refl)

-- what comes is at or above the bar
came_high : (s : Components) (g f : ℕ) (e : Event) (ms : List Message) → Inv s → s.wire g f ≡ message.Event e ∷ ms → e.ordered ≡ true → is_constrained (s.row f) ≡ true → (s.row f).bar ≤ e.stamp
came_high s g f e ms inv front o con =
    let c : Carries (is_regulator (s.row g) && is_other s.directory.joined g f) (s.last_announced g) (s.known_epoch f g) g (stamps s g) (s.serial g) (message.Event e ∷ ms) (s.bound f g) = rw front at (inv.kept.time.wires g f) in
    let low = ltb-true g s.directory.next_federate (and_parts _ _ (wired_taken s g f (message.Event e) ms inv.kept front).0).0 in
    omega (arith, inv.kept.time.bars f con, least_le s.directory.next_federate (s.bound f) g low, c.0 o)

carry_firsts : (s : Components) (g f : ℕ) (ms : List Message) → KeepsFirsts s → Inv s → s.wire g f ≡ ms → KeepsFirsts (carry_outcome s g f ms).state
carry_firsts s g f [] k inv front = k
carry_firsts s g f (message.Event e ∷ ms) k inv front = firsts_queue s k f (cond (is_kept_in_order (s.row f) e) (insert_event e (s.tso f)) (s.tso f)) (λ q p con asks is. let w = k f q p con asks is in
    (w.0, cond_both (is_kept_in_order (s.row f) e) (insert_event e (s.tso f)) (s.tso f) (Above p) (λ y. Above-insert p e (s.tso f) (le_trans w.0 (came_high s g f e ms inv front (and_parts _ _ y).0 con)) w.1) (λ _. w.1)))
carry_firsts s g f (message.Null j v ∷ ms) k inv front = k
carry_firsts s g f (message.Retraction m ∷ ms) k inv front = firsts_queue s k f (remove_event g m (s.tso f)) (λ q p con asks is. let w = k f q p con asks is in (w.0, Above-remove p g m (s.tso f) w.1))
carry_firsts s g f (message.Discovery d ∷ ms) k inv front = k

done_firsts : (s : Components) (step : Step) → Inv s → KeepsFirsts s → KeepsFirsts (step_outcome s step).state
done_firsts s (Join name) inv k = firsts_row s k s.directory.next_federate new_row (past_fresh new_row (s.tso s.directory.next_federate) refl)
done_firsts s (Call f x) inv k = call_firsts s f k inv x
done_firsts s (Carry g f) inv k = carry_firsts s g f (s.wire g f) k inv refl
done_firsts s (Announce f) inv k = announce_firsts s f k inv
done_firsts s (Tick f) inv k = pick_firsts s f k inv _ (pick_tells (s.controls f) (s.row f) (s.ro f) (s.tso f) (local_bound s f))

refused_firsts : (s : Components) (step : Step) (o : Option Fault) → Inv s → KeepsFirsts s → KeepsFirsts (unless_refused o s (step_outcome s step)).state
refused_firsts s step None inv k = done_firsts s step inv k
refused_firsts s step (Some e) inv k = k

list_firsts : (s : Components) (steps : List Step) → Inv s → KeepsFirsts s → KeepsFirsts (state_after s steps)
list_firsts s [] inv k = k
list_firsts s (step ∷ steps) inv k = list_firsts (next s step).state steps (each_step s step inv).kept (refused_firsts s step (refusal (components_seen s) step) inv k)

pub led_firsts : (s : Components) → IsLedTo s → KeepsFirsts s
led_firsts s is = subst KeepsFirsts (sym is.state) (list_firsts (new_components is.catalogue) is.steps (inv_start is.catalogue) (λ f. past_fresh new_row [] refl))

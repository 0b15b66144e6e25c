-- Queries and look-ups
use Rattle.std.proofs.Common.{◌≡◌, ℕ, ◌≤◌, min, cond, not, ◌&&◌, ◌||◌, Bool, true, false, refl, le_trans, ⊎_elim, arith, is_some, List, [], ◌∷◌, Option, Some, None, unwrap_or}
use Rattle.std.proofs.lemmas.Bool.{cond_both, and_parts, cases_Bool}
use Rattle.std.specs.List.{find, list_any}
use Rattle.hla_base.specs.declared.content.Event.{Event}
use Rattle.std.specs.Str.{bytes_eq}
use Rattle.hla_base.specs.Tables.{forever, numbers_below}
use Rattle.hla_base.specs.Rows.{is_constrained}
use Rattle.hla_machine.specs.declared.service.Service.TheVariants as service
use Rattle.hla_machine.specs.declared.step.Step.TheVariants.{Call}
use Rattle.hla_machine.specs.Central.{Ro, Tso, Demoted}
use Rattle.hla_machine.specs.Machine.{BelowAllDemoted}
use Rattle.hla_machine.specs.Refusals.{refusal, is_known}
use Rattle.hla_component_rules.specs.Queues.{find_event, first_stamp, least_ordered, is_event}
use Rattle.hla_null_message.specs.Wires.{events}
use Rattle.hla_components.specs.Components.{Components}
use Rattle.hla_components.specs.Component.{local_bound}
use Rattle.hla_component_rules.specs.Promising.{least_waiting}
use Rattle.hla_components.specs.Next.{components_seen, step_outcome}
use Rattle.hla_components.specs.CentralOf.{central, wire_copy, tso_copy, ro_copy}
use Rattle.hla_components.specs.Invariant.{Above, Kept}
use Rattle.hla_components.specs.Headline.{IsKeptStep}
use Rattle.hla_base.proofs.Tables.{least_le-forever}
use Rattle.hla_components.proofs.Upkeep.Times.{time_le_bound}
use Rattle.hla_components.proofs.Upkeep.Bounds.{below_all, below_bound, copy_cases}
use Rattle.hla_machine.proofs.Basics.Tests.{clear_call, caller_joined, not-is-false}

-- ---- time
least_ordered_le : (g m : ℕ) (e : Event) (xs : List Event) → find_event g m xs ≡ Some e → e.ordered ≡ true → least_ordered xs ≤ e.stamp
unfolding find_event least_ordered
least_ordered_le g m e [] f o = absurd (cc)
least_ordered_le g m e (x ∷ xs) f o = ⊎_elim
    (λ (y : is_event g m x ≡ true). let same : x ≡ e = grind arith in rw same (rw o (omega arith)))
    (λ (n : is_event g m x ≡ false). let l = least_ordered_le g m e xs (grind arith) o in cond_both x.ordered (min x.stamp (least_ordered xs)) (least_ordered xs) (λ v. v ≤ e.stamp) (λ _. omega arith) (λ _. l))
    (cases_Bool (is_event g m x))

not_demoted : (b : Bool) → cond b Tso Ro ≡ Demoted → ⊥
not_demoted true h = cc
not_demoted false h = cc

demoted_from : (b : Bool) → cond b Demoted Ro ≡ Demoted → b ≡ true
demoted_from true h = refl
demoted_from false h = absurd (cc)

below_demoted : (s : Components) (f v : ℕ) → v ≤ least_ordered (s.ro f) → BelowAllDemoted (central s) f v
below_demoted s f v low g m k is live demoted = ⊎_elim
    (λ (w : (e : Event) × (find_event g m (events (s.wire g f)) ≡ Some e) × (wire_copy e ≡ k)). absurd (not_demoted w.0.ordered (rw (← w.2) at demoted)))
    (⊎_elim
    (λ (w : (e : Event) × (find_event g m (s.tso f) ≡ Some e) × (tso_copy e ≡ k)). let no : Tso ≡ Demoted = rw (← w.2) at demoted in absurd (cc))
    (λ (w : (e : Event) × (find_event g m (s.ro f) ≡ Some e) × (ro_copy e ≡ k)).
    let o : w.0.ordered ≡ true = demoted_from w.0.ordered (rw (← w.2) at demoted) in rw (← w.2) (le_trans low (least_ordered_le g m w.0 (s.ro f) w.1 o))))
    (copy_cases g m (s.wire g f) (s.tso f) (s.ro f) k is)

above_first : (t : ℕ) (xs : List Event) → t ≤ forever → Above t xs → t ≤ first_stamp xs
above_first t [] c h = c
above_first t (x ∷ xs) c h = h.0

module _ (s : Components) (f : ℕ) (kept : Kept s) where
  pub step_bound : refusal (components_seen s) (Call f service.QueryLbts) ≡ None → IsKeptStep s (Call f service.QueryLbts) (step_outcome s (Call f service.QueryLbts))
  step_bound none = record { kept = kept; allowed = (none, (below_bound s f (local_bound s f) kept (caller_joined (components_seen s) f service.QueryLbts none) (omega arith), kept.time.bars f)); follows = refl }

  pub step_time : refusal (components_seen s) (Call f service.QueryFederateTime) ≡ None → IsKeptStep s (Call f service.QueryFederateTime) (step_outcome s (Call f service.QueryFederateTime))
  step_time none = record { kept = kept; allowed = (none, refl); follows = refl }

  pub step_query_lookahead : refusal (components_seen s) (Call f service.QueryLookahead) ≡ None → IsKeptStep s (Call f service.QueryLookahead) (step_outcome s (Call f service.QueryLookahead))
  step_query_lookahead none = record { kept = kept; allowed = (none, refl); follows = refl }

  least_time : is_constrained (s.row f) ≡ true → (s.row f).time ≤ least_waiting (s.row f) (s.tso f) (s.ro f) (local_bound s f)
  least_time c =
      let low = time_le_bound s f kept.time c in
      let top : (s.row f).time ≤ forever = le_trans low (least_le-forever s.directory.next_federate (s.bound f)) in
      rw c (omega (arith, low, top, above_first (s.row f).time (s.tso f) top (kept.time.ahead f c)))

  least_free : is_constrained (s.row f) ≡ false → least_waiting (s.row f) (s.tso f) (s.ro f) (local_bound s f) ≤ least_ordered (s.ro f)
  least_free c = rw c (omega arith)

  pub step_least : refusal (components_seen s) (Call f service.QueryMinNextEventTime) ≡ None → IsKeptStep s (Call f service.QueryMinNextEventTime) (step_outcome s (Call f service.QueryMinNextEventTime))
  step_least none =
      let v = least_waiting (s.row f) (s.tso f) (s.ro f) (local_bound s f) in
      record {
        kept = kept;
        allowed = (
          none,
          (
            below_bound s f v kept (caller_joined (components_seen s) f service.QueryMinNextEventTime none) (omega arith),
            below_all s f v kept (omega arith) (omega arith),
            (λ c. below_demoted s f v (least_free c)),
            least_time,
          ),
        );
        follows = refl;
      }

  -- ---- names and numbers
  handle_is : (o : Option ℕ) → not (is_some o) ≡ false → o ≡ Some (unwrap_or o 0)
  handle_is None h = absurd (cc)
  handle_is (Some n) h = refl

  pub step_object_class : (name : List ℕ) → refusal (components_seen s) (Call f (service.GetObjectClassHandle name)) ≡ None → IsKeptStep s (Call f (service.GetObjectClassHandle name)) (step_outcome s (Call f (service.GetObjectClassHandle name)))
  step_object_class name none = record { kept = kept; allowed = (none, handle_is _ (clear_call (components_seen s) f (service.GetObjectClassHandle name) none).0); follows = refl }

  pub step_interaction_class : (name : List ℕ) → refusal (components_seen s) (Call f (service.GetInteractionClassHandle name)) ≡ None → IsKeptStep s (Call f (service.GetInteractionClassHandle name)) (step_outcome s (Call f (service.GetInteractionClassHandle name)))
  step_interaction_class name none = record { kept = kept; allowed = (none, handle_is _ (clear_call (components_seen s) f (service.GetInteractionClassHandle name) none).0); follows = refl }

  pub step_attribute : (name : List ℕ) (class : ℕ) → refusal (components_seen s) (Call f (service.GetAttributeHandle name class)) ≡ None → IsKeptStep s (Call f (service.GetAttributeHandle name class)) (step_outcome s (Call f (service.GetAttributeHandle name class)))
  step_attribute name class none = record { kept = kept; allowed = (none, handle_is _ (clear_call (components_seen s) f (service.GetAttributeHandle name class) none).1.0); follows = refl }

  pub step_parameter : (name : List ℕ) (class : ℕ) → refusal (components_seen s) (Call f (service.GetParameterHandle name class)) ≡ None → IsKeptStep s (Call f (service.GetParameterHandle name class)) (step_outcome s (Call f (service.GetParameterHandle name class)))
  step_parameter name class none = record { kept = kept; allowed = (none, handle_is _ (clear_call (components_seen s) f (service.GetParameterHandle name class) none).1.0); follows = refl }

  -- what is found passes the test
  found_passes : (p : ℕ → Bool) (xs : List ℕ) → list_any p xs ≡ true → p (unwrap_or (find p xs) 0) ≡ true
  found_passes p [] h = absurd (cc)
  found_passes p (x ∷ xs) h = cond_both (p x) (Some x) (find p xs) (λ o. p (unwrap_or o 0) ≡ true) (λ y. y) (λ n. found_passes p xs (let h2 : (false || list_any p xs) ≡ true = rw n at h in h2))

  pub step_object : (name : List ℕ) → refusal (components_seen s) (Call f (service.GetObjectInstanceHandle name)) ≡ None → IsKeptStep s (Call f (service.GetObjectInstanceHandle name)) (step_outcome s (Call f (service.GetObjectInstanceHandle name)))
  step_object name none = record { kept = kept; allowed = (none, and_parts _ _ (found_passes (λ h. is_known s.directory f h && bytes_eq (s.directory.object h).name name) (numbers_below s.directory.next_object) (not-is-false _ (clear_call (components_seen s) f (service.GetObjectInstanceHandle name) none).0))); follows = refl }

  pub step_object_name : (object : ℕ) → refusal (components_seen s) (Call f (service.GetObjectInstanceName object)) ≡ None → IsKeptStep s (Call f (service.GetObjectInstanceName object)) (step_outcome s (Call f (service.GetObjectInstanceName object)))
  step_object_name object none = record { kept = kept; allowed = (none, refl); follows = refl }

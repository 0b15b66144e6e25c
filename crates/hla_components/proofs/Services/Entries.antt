-- Enabling time regulation: the entry, and the step
use Rattle.std.proofs.Common.{◌≡◌, ◌≢◌, ◌⊎◌, ℕ, ◌+◌, ◌-◌, ◌≤◌, ◌<◌, max, cond, eqb, ltb, true, false, refl, sym, ◌∙◌, inl, inr, subst, ⊎_elim, arith, eq-eqb, ne_eqb, Option, Some, None}
use Rattle.std.proofs.lemmas.Bool.{cases_eq, cases_Bool, cases_lt, ltb-true, lt-ltb}
use Rattle.hla_base.specs.declared.row.AdvanceRequest.{AdvanceRequest}
use Rattle.hla_base.specs.declared.row.Role.{Role}
use Rattle.hla_base.specs.declared.row.Role.TheVariants.{Disabled, Pending, Enabled}
use Rattle.hla_base.specs.declared.row.TimeRow.{TimeRow}
use Rattle.hla_base.specs.Tables.{upd, greatest}
use Rattle.hla_base.specs.Rows.{is_constrained, is_enabled, is_disabled, is_pending, next_request, width, row_with_entry, bar_of}
use Rattle.hla_machine.specs.declared.service.Service.TheVariants as service
use Rattle.hla_machine.specs.declared.step.Step.TheVariants.{Call}
use Rattle.hla_machine.specs.Central.{BelowSomeWake, low_entry}
use Rattle.hla_machine.specs.Refusals.{refusal}
use Rattle.hla_component_rules.specs.Queues.{first_stamp}
use Rattle.hla_components.specs.Components.{Components}
use Rattle.hla_null_message.specs.Promise.{promise_in}
use Rattle.hla_components.specs.Component.{local_bound, regulation_entry}
use Rattle.hla_component_rules.specs.Promising.{entry_held, entry_for}
use Rattle.hla_components.specs.Next.{components_seen, step_outcome}
use Rattle.hla_components.specs.CentralOf.{central}
use Rattle.hla_components.specs.Invariant.{Kept}
use Rattle.hla_components.specs.Headline.{IsKeptStep}
use Rattle.hla_base.proofs.Tables.{le_greatest, greatest_ge, greatest_le, greatest_is}
use Rattle.hla_components.proofs.Upkeep.Epochs.{IsEntryKept, time_enters}
use Rattle.hla_components.proofs.Upkeep.Bounds.{below_wake}
use Rattle.hla_machine.proofs.Basics.Tests.{clear_call, caller_joined}
use Rattle.hla_components.proofs.Services.Steps.{wired_row, regulator_from}
use Rattle.hla_components.proofs.Services.TimeSteps.{at_rest, null_copies, null_objects, null_central}

held_cases : (r : TimeRow) (o : Option AdvanceRequest) (l : ℕ) → (entry_held r o l ≡ 0) ⊎ ((q : AdvanceRequest) × (o ≡ Some q) × (r.floor < l) × (entry_held r o l ≡ l - width r.lookahead q.kind))
held_cases r None l = inl refl
held_cases r (Some q) l = ⊎_elim
    (λ (y : ltb r.floor l ≡ true). inr (q, refl, ltb-true _ _ y, rw y refl))
    (λ (n : ltb r.floor l ≡ false). inl (rw n refl))
    (cases_Bool (ltb r.floor l))

module _ (s : Components) (f earliest : ℕ) where
  entry_at : ℕ → ℕ
  entry_at g = cond (eqb f g) (bar_of (s.row g)) (entry_for (s.row g) (s.last_announced g))

  entry_is : regulation_entry s f earliest ≡ greatest s.directory.next_federate earliest entry_at
  unfolding regulation_entry entry_at
  entry_is = refl

  entry_here : entry_at f ≡ bar_of (s.row f)
  unfolding entry_at
  entry_here = rw (eq-eqb f f refl) refl

  entry_other : (g : ℕ) → f ≢ g → entry_at g ≡ entry_for (s.row g) (s.last_announced g)
  unfolding entry_at
  entry_other g ne = rw (ne_eqb f g ne) refl

  entry_bar : (g : ℕ) → g < s.directory.next_federate → bar_of (s.row g) ≤ regulation_entry s f earliest
  entry_bar g b = rw entry_is (⊎_elim
      (λ (e : f ≡ g). subst (λ k. k < s.directory.next_federate → bar_of (s.row k) ≤ greatest s.directory.next_federate earliest entry_at) e (λ b. omega (arith, le_greatest s.directory.next_federate earliest entry_at f b, entry_here)) b)
      (λ (ne : f ≢ g). omega (arith, le_greatest s.directory.next_federate earliest entry_at g b, entry_other g ne))
      (cases_eq f g))

  entry_wants : (g : ℕ) → g < s.directory.next_federate → f ≢ g → entry_for (s.row g) (s.last_announced g) ≤ regulation_entry s f earliest
  entry_wants g b ne = rw (entry_is, ← (entry_other g ne)) (le_greatest s.directory.next_federate earliest entry_at g b)

  module _ (kept : Kept s) where
    -- a regulator is a member
    regulator_below : (g : ℕ) → is_enabled (s.row g).regulating ≡ true → g < s.directory.next_federate
    regulator_below g y = kept.directory.members g (kept.time.regulators g (regulator_from (s.row g).regulating y))

    entry_keeps : IsEntryKept s f (regulation_entry s f earliest)
    entry_keeps = record {
      above_bars = λ k j c. let h : cond (is_constrained (s.row k)) (s.row k).bar 0 ≤ regulation_entry s f earliest = entry_bar k (kept.directory.members k j) in rw c at h;
      above_held = λ g ne y q is high.
          let h : max (bar_of (s.row g)) (cond (is_enabled (s.row g).regulating) (entry_held (s.row g) (next_request (s.row g)) (s.last_announced g)) 0) ≤ regulation_entry s f earliest = entry_wants g (regulator_below g y) ne in
          let i = rw (y, is, lt-ltb _ _ high) at h in omega (arith, i);
    }

    entry_low : low_entry s.directory s.row earliest ≤ regulation_entry s f earliest
    unfolding low_entry
    entry_low = greatest_le s.directory.next_federate earliest _ _ (rw entry_is (greatest_ge s.directory.next_federate earliest entry_at)) (λ g b. entry_bar g b)

    low_base : earliest ≤ low_entry s.directory s.row earliest
    unfolding low_entry
    low_base = greatest_ge s.directory.next_federate earliest _

    low_bar : (g : ℕ) → g < s.directory.next_federate → bar_of (s.row g) ≤ low_entry s.directory s.row earliest
    unfolding low_entry
    low_bar g b = le_greatest s.directory.next_federate earliest (λ k. bar_of (s.row k)) g b

    -- an entry that is no bar is kept by a wake
    held_high : (g : ℕ) → g ≢ f → cond (is_enabled (s.row g).regulating) (entry_held (s.row g) (next_request (s.row g)) (s.last_announced g)) 0 ≡ regulation_entry s f earliest
        → (regulation_entry s f earliest ≡ 0) ⊎ BelowSomeWake (central s) f (regulation_entry s f earliest)
    held_high g ne e = ⊎_elim
        (λ (y : is_enabled (s.row g).regulating ≡ true).
        let reg = regulator_from (s.row g).regulating y in
        let h : entry_held (s.row g) (next_request (s.row g)) (s.last_announced g) ≡ regulation_entry s f earliest = rw y at e in
        ⊎_elim
        (λ z. inl (sym h ∙ z))
        (λ (w : (q : AdvanceRequest) × (next_request (s.row g) ≡ Some q) × ((s.row g).floor < s.last_announced g) × (entry_held (s.row g) (next_request (s.row g)) (s.last_announced g) ≡ s.last_announced g - width (s.row g).lookahead q.kind)).
        let old : s.last_announced g ≤ promise_in (s.row g) (Some w.0) (first_stamp (s.tso g)) (local_bound s g) = rw w.1 at (kept.time.promised g reg) in
        inr (g, w.0, kept.time.regulators g reg, ne, y, w.1, below_wake s g w.0 (s.row g).first_pick (regulation_entry s f earliest) kept (omega (arith, w.2, w.3))))
        (held_cases (s.row g) (next_request (s.row g)) (s.last_announced g)))
        (λ (n : is_enabled (s.row g).regulating ≡ false). inl (rw n at (sym e)))
        (cases_Bool (is_enabled (s.row g).regulating))

    entry_high : (regulation_entry s f earliest ≤ low_entry s.directory s.row earliest) ⊎ BelowSomeWake (central s) f (regulation_entry s f earliest)
    entry_high = ⊎_elim
        (λ (e : greatest s.directory.next_federate earliest entry_at ≡ earliest). inl (omega (arith, entry_is, low_base)))
        (λ (w : (g : ℕ) × (g < s.directory.next_federate) × (greatest s.directory.next_federate earliest entry_at ≡ entry_at g)). ⊎_elim
        (λ (same : f ≡ w.0). let h : entry_at w.0 ≡ bar_of (s.row w.0) = subst (λ k. entry_at k ≡ bar_of (s.row k)) same entry_here in inl (omega (arith, entry_is, low_bar w.0 w.1)))
        (λ (ne : f ≢ w.0).
        let h : regulation_entry s f earliest ≡ max (bar_of (s.row w.0)) (cond (is_enabled (s.row w.0).regulating) (entry_held (s.row w.0) (next_request (s.row w.0)) (s.last_announced w.0)) 0) = entry_is ∙ (w.2 ∙ entry_other w.0 ne) in
        ⊎_elim
        (λ (a : cond (is_enabled (s.row w.0).regulating) (entry_held (s.row w.0) (next_request (s.row w.0)) (s.last_announced w.0)) 0 < bar_of (s.row w.0)). inl (omega (arith, low_bar w.0 w.1)))
        (λ a. ⊎_elim (λ z. inl (omega arith)) (λ x. inr x) (held_high w.0 (λ e. ne (sym e)) (omega arith)))
        (cases_lt _ _))
        (cases_eq f w.0))
        (greatest_is s.directory.next_federate earliest entry_at)

disabled_from : (r : Role) → is_enabled r ≡ false → is_pending r ≡ false → is_disabled r ≡ true
disabled_from Disabled e p = refl
disabled_from Pending e p = absurd (cc)
disabled_from Enabled e p = absurd (cc)

pub step_regulate : (s : Components) (f time lookahead : ℕ) → Kept s → refusal (components_seen s) (Call f (service.EnableTimeRegulation time lookahead)) ≡ None
    → IsKeptStep s (Call f (service.EnableTimeRegulation time lookahead)) (step_outcome s (Call f (service.EnableTimeRegulation time lookahead)))
step_regulate s f time lookahead kept none =
    let e = regulation_entry s f (time + lookahead) in
    let clear = clear_call (components_seen s) f (service.EnableTimeRegulation time lookahead) none in
    let c1 = clear.1 in let c2 = c1.1 in
    let member = caller_joined (components_seen s) f (service.EnableTimeRegulation time lookahead) none in
    record {
      kept = record {
        directory = kept.directory;
        wired = wired_row s f _ kept member;
        time = time_enters s f lookahead e kept.time member (at_rest (s.row f) clear.0) (disabled_from (s.row f).regulating c1.0 c2.0) (entry_keeps s f (time + lookahead) kept);
        copies = null_copies s f (s.epoch f + 1) e kept;
        objects = null_objects s f (s.epoch f + 1) e kept;
      };
      allowed = (none, (entry_low s f (time + lookahead) kept, entry_high s f (time + lookahead) kept));
      follows = null_central s f (s.epoch f + 1) e (upd s.row f (row_with_entry (s.row f) lookahead e));
    }

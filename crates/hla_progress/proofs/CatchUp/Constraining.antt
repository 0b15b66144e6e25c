-- A federate that is to be constrained: it waits for its regulation first, if that is pending, and then for its time
use Rattle.std.proofs.Common.{◌≡◌, ◌≢◌, ◌⊎◌, ℕ, ◌+◌, ◌≤◌, ◌<◌, cond, not, true, false, refl, sym, ◌∙◌, ap, subst, inl, inr, le_trans, ⊎_elim, arith, eq-eqb, ne_eqb, List, [], ◌∷◌, ◌++◌, length, Some, None}
use Rattle.std.proofs.lemmas.Bool.{cases_eq}
use Rattle.hla_base.specs.declared.row.AdvanceRequest.{AdvanceRequest}
use Rattle.hla_base.specs.Tables.{one_if}
use Rattle.hla_base.specs.Rows.{is_pending, row_after_regulation_enabled}
use Rattle.hla_base.proofs.Tables.{upd_same}
use Rattle.hla_callbacks.specs.declared.callback.Callback.{Callback}
use Rattle.hla_callbacks.specs.declared.callback.Callback.TheVariants as callback
use Rattle.hla_component_rules.specs.declared.control.Control.TheVariants.{ToDiscover, ToRetract, ToTell}
use Rattle.hla_component_rules.specs.Picking.{Pick, NoPick, PickControl, PickRo, PickRegulates, PickConstrains, PickTso, PickGrant}
use Rattle.hla_machine.specs.declared.step.Step.{Step}
use Rattle.hla_machine.specs.declared.step.Step.TheVariants.{Join, Call, Carry, Announce, Tick}
use Rattle.hla_machine.specs.Central.{BelowBound}
use Rattle.hla_synchronization.specs.Points.{points_after_notice}
use Rattle.hla_components.specs.Components.{Components}
use Rattle.hla_components.specs.Component.{local_bound}
use Rattle.hla_components.specs.CentralOf.{central}
use Rattle.hla_components.specs.Invariant.{EachOf}
use Rattle.hla_components.specs.Next.{Outcomes, next, pick_outcome, with_row, notice_callback}
use Rattle.hla_components.specs.Headline.{IsLedTo, happening, happenings, state_after}
use Rattle.hla_components.proofs.Refinement.Picks.{PickFacts, pick_tells}
use Rattle.hla_components.proofs.Refinement.LedTo.{led_inv, led_next}
use Rattle.hla_progress.specs.Rounds.{ticks, rounds, IsOfRounds, is_tick_of, ticks_of, IsGiven, IsGivenAtLast, IsGivenIn}
use Rattle.hla_progress.specs.AtOnce.{asked_time, due_up_to, due_before}
use Rattle.hla_progress.specs.CatchingUp.{NobodyIsSlow, coming_time, EachIsConstrainedInARound}
use Rattle.hla_progress.proofs.Waiting.Picks.{some_pick}
use Rattle.hla_progress.proofs.Waiting.Steps.{WaitsOn, bound_rises, other_waits, told_less, control_less, ro_less, picked_at}
use Rattle.hla_progress.proofs.CatchUp.FirstRound.{waits_carried, after_first, rest_of, rest_ticks, goal_known}
use Rattle.hla_progress.proofs.CatchUp.Heard.{carried, led_carried}

-- f is constrained from u on
abbrev pub IsConstrainedAt : ℕ → Callback → Type 0
IsConstrainedAt u k = k ≡ callback.TimeConstrainedEnabled u

pub record ToConstrain (f u : ℕ) (s : Components) : Type 0 where
  pub joined : s.directory.joined f ≡ true
  pub was : is_pending (s.row f).constrained ≡ true
  pub coming : coming_time (s.row f) ≡ u

-- what is due, its own regulation with it
abbrev pub due_first : Components → ℕ → ℕ → ℕ
due_first s f limit = due_up_to s f limit + one_if (is_pending (s.row f).regulating)

pub record GoesOn (s t : Components) (f limit u x : ℕ) : Type 0 where
  pub still : ToConstrain f u t
  pub less : due_first t f limit + x ≤ due_first s f limit
  pub rises : local_bound s f ≤ local_bound t f

module _ (s : Components) (f limit u : ℕ) (c : ToConstrain f u s) where
  pub goes_on : (t : Components) (x : ℕ) → WaitsOn s t f limit x → GoesOn s t f limit u x
  goes_on t x on = record {
    still = record { joined = on.joined ∙ c.joined; was = ap is_pending on.constrained ∙ c.was; coming = rw (on.regulating, on.regulation, on.time) c.coming };
    less = let same : one_if (is_pending (t.row f).regulating) ≡ one_if (is_pending (s.row f).regulating) = ap (λ r. one_if (is_pending r)) on.regulating in omega (arith, on.less, same);
    rises = bound_rises s t f limit x on;
  }

  same_goes : GoesOn s s f limit u 0
  same_goes = record { still = c; less = omega arith; rises = omega arith }

  -- a tick brings the callback, or some other, or nothing and changes nothing
  abbrev pub Ticks : Outcomes → Type 0
  Ticks o = IsGiven (happening (Tick f) o) f (IsConstrainedAt u) ⊎ ((IsGiven (happening (Tick f) o) f (λ _. Unit {0}) × GoesOn s o.state f limit u 1) ⊎ ((picked_at s f ≡ NoPick) × (o.state ≡ s)))

  regulated : is_pending (s.row f).regulating ≡ true → GoesOn s (with_row s f (row_after_regulation_enabled (s.row f))) f limit u 1
  regulated y = record {
    still = record { joined = c.joined; was = rw upd_same c.was; coming = rw upd_same (let at : cond (is_pending (s.row f).regulating) (s.row f).regulation_time (s.row f).time ≡ u = c.coming in rw y at at) };
    less = rw (upd_same, y) (omega arith);
    rises = omega arith;
  }

  module _ (is : IsLedTo s) where
    busy : (q : AdvanceRequest) → (s.row f).advance ≡ Some q → ⊥
    busy q asks = let none : (s.row f).advance ≡ None = ((led_inv s is).kept.time.rows f).resting c.was in let e : None ≡ Some q = sym none ∙ asks in cc

    pick_ticks : (p : Pick) → picked_at s f ≡ p → PickFacts (s.controls f) (s.row f) (s.ro f) (s.tso f) (local_bound s f) p → Ticks (pick_outcome s f p)
    pick_ticks NoPick is_so facts = inr (inr (is_so, refl))
    pick_ticks (PickControl (ToDiscover from d) rest) is_so facts = inr (inl ((callback.DiscoverObjectInstance d.object d.class d.name, (refl, refl), tt), goes_on _ 1 (control_less s f limit (IsConstrainedAt u) (ToDiscover from d) rest facts)))
    pick_ticks (PickControl (ToRetract e) rest) is_so facts = inr (inl ((callback.RequestRetraction e, (refl, refl), tt), goes_on _ 1 (control_less s f limit (IsConstrainedAt u) (ToRetract e) rest facts)))
    pick_ticks (PickControl (ToTell n) rest) is_so facts = inr (inl ((notice_callback n.kind n.label, (refl, refl), tt), goes_on _ 1 (told_less s f limit (IsConstrainedAt u) (points_after_notice f n s.directory.points) (ToTell n) rest facts)))
    pick_ticks (PickRo e rest) is_so facts = inr (inl ((_, (refl, refl), tt), goes_on _ 1 (ro_less s f limit (IsConstrainedAt u) e rest facts.1 (ap not facts.2))))
    pick_ticks PickRegulates is_so facts = inr (inl ((callback.TimeRegulationEnabled (s.row f).regulation_time, (refl, refl), tt), regulated facts.1))
    pick_ticks PickConstrains is_so facts = inl (callback.TimeConstrainedEnabled (s.row f).time, (refl, refl), ap callback.TimeConstrainedEnabled (let at : cond (is_pending (s.row f).regulating) (s.row f).regulation_time (s.row f).time ≡ u = c.coming in rw facts.2 at at))
    pick_ticks (PickTso q e rest) is_so facts = absurd (busy q facts.1.asks)
    pick_ticks (PickGrant q t) is_so facts = absurd (busy q facts.1.asks)

    own_ticks : Ticks (next s (Tick f))
    own_ticks = let j = c.joined in rw j (pick_ticks (picked_at s f) refl (pick_tells (s.controls f) (s.row f) (s.ro f) (s.tso f) (local_bound s f)))

    -- ---- any step
    other_goes : (step : Step) → IsOfRounds step → is_tick_of f step ≡ false → GoesOn s (next s step).state f limit u 0
    other_goes step of off = goes_on (next s step).state 0 (other_waits s f limit step (led_inv s is) of off)

    abbrev Brings : Step → Outcomes → Type 0
    Brings step o = IsGiven (happening step o) f (IsConstrainedAt u) ⊎ GoesOn s o.state f limit u 0

    less_exact : (t : Components) → GoesOn s t f limit u 1 → GoesOn s t f limit u 0
    less_exact t g = record { still = g.still; less = omega (arith, g.less); rises = g.rises }

    own_brings : Ticks (next s (Tick f)) → Brings (Tick f) (next s (Tick f))
    own_brings (inl g) = inl g
    own_brings (inr (inl w)) = inr (less_exact (next s (Tick f)).state w.1)
    own_brings (inr (inr w)) = inr (subst (λ (t : Components). GoesOn s t f limit u 0) (sym w.1) same_goes)

    pub step_goes_on : (step : Step) → IsOfRounds step → Brings step (next s step)
    step_goes_on (Join name) of = absurd of
    step_goes_on (Call g x) of = absurd of
    step_goes_on (Carry g l) of = inr (other_goes (Carry g l) of refl)
    step_goes_on (Announce g) of = inr (other_goes (Announce g) of refl)
    step_goes_on (Tick g) of = ⊎_elim
        (λ (e : f ≡ g). subst (λ h. Brings (Tick h) (next s (Tick h))) e (own_brings own_ticks))
        (λ (ne : f ≢ g). inr (other_goes (Tick g) of (ne_eqb f g ne)))
        (cases_eq f g)

    -- ---- once its time is reached each tick answers
    abbrev Answers : Step → Outcomes → Type 0
    Answers step o = IsGiven (happening step o) f (IsConstrainedAt u) ⊎ ((is_tick_of f step ≡ true → IsGiven (happening step o) f (λ _. Unit {0})) × GoesOn s o.state f limit u (one_if (is_tick_of f step)))

    module _ (within : u ≤ local_bound s f) where
      time_within : is_pending (s.row f).regulating ≡ false → (s.row f).time ≤ local_bound s f
      time_within n = let at : cond (is_pending (s.row f).regulating) (s.row f).regulation_time (s.row f).time ≡ u = c.coming in let same : (s.row f).time ≡ u = rw n at at in omega (arith, within)

      own_answers : Ticks (next s (Tick f)) → Answers (Tick f) (next s (Tick f))
      own_answers (inl g) = inl g
      own_answers (inr (inl w)) = inr (rw (eq-eqb f f refl) ((λ _. w.0), w.1))
      own_answers (inr (inr w)) = absurd (some_pick (s.row f) (local_bound s f) c.was time_within (s.controls f) (s.ro f) (s.tso f) w.0)

      other_answers : (step : Step) → IsOfRounds step → is_tick_of f step ≡ false → Answers step (next s step)
      other_answers step of off = inr (rw off ((λ y. absurd (cc)), other_goes step of off))

      pub step_answers : (step : Step) → IsOfRounds step → Answers step (next s step)
      step_answers (Join name) of = absurd of
      step_answers (Call g x) of = absurd of
      step_answers (Carry g l) of = other_answers (Carry g l) of refl
      step_answers (Announce g) of = other_answers (Announce g) of refl
      step_answers (Tick g) of = ⊎_elim
          (λ (e : f ≡ g). subst (λ h. Answers (Tick h) (next s (Tick h))) e (own_answers own_ticks))
          (λ (ne : f ≢ g). other_answers (Tick g) of (ne_eqb f g ne))
          (cases_eq f g)

-- ---- lists
module _ (f limit u : ℕ) where
  pub list_goes_on : (s : Components) (steps : List Step) → IsLedTo s → EachOf IsOfRounds steps → ToConstrain f u s
      → IsGivenIn (happenings s steps) f (IsConstrainedAt u) ⊎ (ToConstrain f u (state_after s steps) × (due_first (state_after s steps) f limit ≤ due_first s f limit))
  list_goes_on s [] is of c = inr (c, omega arith)
  list_goes_on s (step ∷ steps) is of c = ⊎_elim
      (λ (g : IsGiven (happening step (next s step)) f (IsConstrainedAt u)). inl (inl g))
      (λ (on : GoesOn s (next s step).state f limit u 0). ⊎_elim
      (λ (g : IsGivenIn (happenings (next s step).state steps) f (IsConstrainedAt u)). inl (inr g))
      (λ (v : ToConstrain f u (state_after (next s step).state steps) × (due_first (state_after (next s step).state steps) f limit ≤ due_first (next s step).state f limit)). inr (v.0, omega (arith, v.1, on.less)))
      (list_goes_on (next s step).state steps (led_next s step is) of.1 on.still))
      (step_goes_on s f limit u c is step of.0)

  list_answers : (s : Components) (steps : List Step) → IsLedTo s → EachOf IsOfRounds steps → ToConstrain f u s → u ≤ local_bound s f → due_first s f limit < ticks_of f steps → IsGivenAtLast (happenings s steps) f (IsConstrainedAt u)
  list_answers s [] is of c within less = absurd (omega (arith, less))
  list_answers s (step ∷ steps) is of c within less = ⊎_elim
      (λ (g : IsGiven (happening step (next s step)) f (IsConstrainedAt u)). inl g)
      (λ (w : (is_tick_of f step ≡ true → IsGiven (happening step (next s step)) f (λ _. Unit {0})) × GoesOn s (next s step).state f limit u (one_if (is_tick_of f step))).
      inr (w.0, list_answers (next s step).state steps (led_next s step is) of.1 w.1.still (le_trans within w.1.rises) (omega (arith, less, w.1.less))))
      (step_answers s f limit u c is within step of.0)

  -- ---- the rounds
  pub constrained_in : (s : Components) (n m d : ℕ) → IsLedTo s → s.directory.next_federate ≤ n + 1 → ((g : ℕ) → g ≢ 0 → length (s.wire g f) ≤ m)
      → ToConstrain f u s → BelowBound (central s) f u → NobodyIsSlow s f u → due_first s f limit ≤ d → IsGivenAtLast (happenings s (rounds (1 + d) n m)) f (IsConstrainedAt u)
  constrained_in s n m d is few short c below quick enough =
      let on = goes_on s f limit u c (carried s n m) 0 (waits_carried s f n m (due_up_to s f limit) limit (IsConstrainedAt u) is c.joined few (omega arith)) in
      after_first s f n m d (IsConstrainedAt u) (list_answers (carried s n m) (ticks n ++ rounds d n m) (led_carried s n m is) (rest_of n m d) on.still (goal_known s f n m u is c.joined few short below quick)
      (omega (arith, on.less, enough, rest_ticks s f n m d is c.joined few)))

pub is_constrained_soon : EachIsConstrainedInARound
is_constrained_soon s f n m is few short member was below quick =
    constrained_in f (asked_time (s.row f).advance) (coming_time (s.row f)) s n m (due_before s f + one_if (is_pending (s.row f).regulating)) is few (λ g _. short g) (record { joined = member; was = was; coming = refl }) below quick (omega arith)

-- What each federate that waits is to be granted
use Rattle.std.proofs.Common.{◌≡◌, ℕ, zero, suc, ◌+◌, ◌≤◌, min, true, false, refl, sym, ◌∙◌, ap, subst, ⊎_elim, arith, List, [], ◌∷◌, ◌++◌, length, Option, Some, None}
use Rattle.std.proofs.lemmas.Bool.{cases_Bool}
use Rattle.hla_base.specs.declared.row.AdvanceRequest.{AdvanceRequest}
use Rattle.hla_base.specs.declared.row.TimeRow.{TimeRow}
use Rattle.hla_base.specs.Rows.{is_next, is_flush, is_constrained}
use Rattle.hla_component_rules.specs.Queues.{first_stamp}
use Rattle.hla_machine.specs.declared.step.Step.{Step}
use Rattle.hla_machine.specs.declared.step.Step.TheVariants.{Join, Call, Carry, Announce, Tick}
use Rattle.hla_machine.specs.Central.{BelowAllTso}
use Rattle.hla_machine.proofs.Upkeep.Keeps.{LowIn, low_fewer}
use Rattle.hla_components.specs.Components.{Components}
use Rattle.hla_components.specs.CentralOf.{central}
use Rattle.hla_components.specs.Invariant.{EachOf}
use Rattle.hla_components.specs.Next.{next}
use Rattle.hla_components.specs.Headline.{IsLedTo, state_after}
use Rattle.hla_components.proofs.Basics.Each.{EachOf-append, EachOf-weaker}
use Rattle.hla_components.proofs.Refinement.LedTo.{led_inv, led_next, state_appended}
use Rattle.hla_progress.specs.Rounds.{announcements, carries_to, IsOfRounds}
use Rattle.hla_progress.specs.CatchingUp.{IsTarget, IsWaitingFor}
use Rattle.hla_progress.proofs.Moving.Rounds.{IsNoTick}
use Rattle.hla_progress.proofs.Moving.Targets.{WakeIn, wake_same}
use Rattle.hla_progress.proofs.Moving.Led.{led_round, led_goes}
use Rattle.hla_progress.proofs.Waiting.Lists.{asked_cap}
use Rattle.hla_progress.proofs.CatchUp.Announced.{announced_next}
use Rattle.hla_progress.proofs.CatchUp.Carried.{IsCarry, next_on, to_are}
use Rattle.hla_progress.proofs.CatchUp.Nulls.{NullsAlone}
use Rattle.hla_progress.proofs.CatchUp.Arrived.{all_waits, first_counts}
use Rattle.hla_progress.proofs.CatchUp.Heard.{carried, led_carried, nulls_alone}

-- ---- where nothing is on its way
module _ (s : Components) (f : ℕ) (q : AdvanceRequest) (is : IsLedTo s) (nulls : NullsAlone s f) (asks : (s.row f).advance ≡ Some q) where
  wake_at_rest : (o : Option ℕ) → (s.row f).first_pick ≡ o → (t : ℕ) × WakeIn (BelowAllTso (central s) f) q o t
  wake_at_rest (Some p) first = (p, (omega arith, λ x l. l))
  wake_at_rest None first = let cap = asked_cap s f q (led_inv s is) asks in (
    min q.asked (first_stamp (s.tso f)),
    (
      (omega arith, all_waits s f is nulls (min q.asked (first_stamp (s.tso f))) (omega arith) (omega arith)),
      λ x l. omega (arith, l.0, first_counts s f is nulls x (omega (arith, l.0)) l.1),
    ),
  )

  target_at_rest : (t : ℕ) × IsTarget (central s) f q t
  target_at_rest = ⊎_elim
      (λ (y : is_next q.kind ≡ true). let w = wake_at_rest (s.row f).first_pick refl in (w.0, ((λ n. absurd (cc)), (λ _. w.1))))
      (λ (n : is_next q.kind ≡ false). (q.asked, ((λ _. refl), (λ y. absurd (cc)))))
      (cases_Bool (is_next q.kind))

-- ---- announcements and carries leave it as it was
no_tick_row : (s : Components) (step : Step) → IsNoTick step → (next s step).state.row ≡ s.row
no_tick_row s (Join name) of = absurd of
no_tick_row s (Call h x) of = absurd of
no_tick_row s (Carry h l) of = (next_on s h l).row
no_tick_row s (Announce h) of = (announced_next s h).row
no_tick_row s (Tick h) of = absurd of

of_rounds : (step : Step) → IsNoTick step → IsOfRounds step
of_rounds (Join name) of = of
of_rounds (Call h x) of = of
of_rounds (Carry h l) of = of
of_rounds (Announce h) of = of
of_rounds (Tick h) of = absurd of

of_carries : (step : Step) → IsCarry step → IsNoTick step
of_carries (Join name) of = of
of_carries (Call h x) of = of
of_carries (Carry h l) of = of
of_carries (Announce h) of = absurd of
of_carries (Tick h) of = of

announcements_no_tick : (n : ℕ) → EachOf IsNoTick (announcements n)
unfolding announcements
announcements_no_tick zero = tt
announcements_no_tick (suc n) = EachOf-append IsNoTick (announcements n) (Announce (suc n) ∷ []) (announcements_no_tick n) (tt, tt)

module _ (f : ℕ) where
  rows_stay : (s : Components) (steps : List Step) → EachOf IsNoTick steps → (state_after s steps).row ≡ s.row
  rows_stay s [] of = refl
  rows_stay s (step ∷ steps) of = rows_stay (next s step).state steps of.1 ∙ no_tick_row s step of.0

  low_forth : (s : Components) (steps : List Step) → IsLedTo s → EachOf IsNoTick steps → (x : ℕ) → BelowAllTso (central s) f x → BelowAllTso (central (state_after s steps)) f x
  low_forth s [] is of x l = l
  low_forth s (step ∷ steps) is of x l = let r = led_round s step is (of_rounds step of.0) in low_forth (next s step).state steps (led_next s step is) of.1 x
      (subst (λ sent. LowIn (central (next s step).state).bag sent f x) (sym r.sent) (low_fewer (central (next s step).state).bag (central s).bag (central s).sent r.fewer f x l))

  low_back : (s : Components) (steps : List Step) → IsLedTo s → EachOf IsNoTick steps → is_constrained (s.row f) ≡ true → (x : ℕ) → BelowAllTso (central (state_after s steps)) f x → BelowAllTso (central s) f x
  low_back s [] is of con x l = l
  low_back s (step ∷ steps) is of con x l =
      let r = led_round s step is (of_rounds step of.0) in
      let goes = led_goes s step f is of.0 con in
      let con2 : is_constrained ((next s step).state.row f) ≡ true = ap (λ (row : ℕ → TimeRow). is_constrained (row f)) (no_tick_row s step of.0) ∙ con in
      let later : LowIn (central (next s step).state).bag (central (next s step).state).sent f x = low_back (next s step).state steps (led_next s step is) of.1 con2 x l in
      let there : LowIn (central (next s step).state).bag (central s).sent f x = subst (λ sent. LowIn (central (next s step).state).bag sent f x) r.sent later in
      λ g m k at live tso. there g m k (goes g m k at live tso) live tso

  target_back : (s : Components) (steps : List Step) (q : AdvanceRequest) (t : ℕ) → IsLedTo s → EachOf IsNoTick steps → is_constrained (s.row f) ≡ true → IsTarget (central (state_after s steps)) f q t → IsTarget (central s) f q t
  target_back s steps q t is of con w =
      let same : ((state_after s steps).row f).first_pick ≡ (s.row f).first_pick = ap (λ (row : ℕ → TimeRow). (row f).first_pick) (rows_stay s steps of) in (
        w.0,
        λ y. wake_same (BelowAllTso (central (state_after s steps)) f) (BelowAllTso (central s) f) q (s.row f).first_pick t (low_back s steps is of con) (low_forth s steps is of)
            (subst (λ o. WakeIn (BelowAllTso (central (state_after s steps)) f) q o t) same (w.1 y)),
      )

-- ---- each has a target
pub waits_for : (s : Components) (f n m : ℕ) (q : AdvanceRequest) → IsLedTo s → s.directory.next_federate ≤ n + 1 → ((g h : ℕ) → length (s.wire g h) ≤ m)
    → s.directory.joined f ≡ true → is_constrained (s.row f) ≡ true → (s.row f).advance ≡ Some q → is_flush q.kind ≡ false → (t : ℕ) × IsWaitingFor s f q t
waits_for s f n m q is few short member con asks fl =
    let steps = announcements n ++ carries_to n (m + 1) n in
    let of : EachOf IsNoTick steps = EachOf-append IsNoTick (announcements n) (carries_to n (m + 1) n) (announcements_no_tick n) (EachOf-weaker IsCarry IsNoTick (carries_to n (m + 1) n) of_carries (to_are (m + 1) n n)) in
    let same : carried s n m ≡ state_after s steps = sym (state_appended s (announcements n) (carries_to n (m + 1) n)) in
    let asks2 : ((carried s n m).row f).advance ≡ Some q = subst (λ (u : Components). (u.row f).advance ≡ Some q) (sym same) (ap (λ (row : ℕ → TimeRow). (row f).advance) (rows_stay f s steps of) ∙ asks) in
    let w = target_at_rest (carried s n m) f q (led_carried s n m is) (nulls_alone s n m is few f member (λ g _. short g f)) asks2 in
    (w.0, record { joined = member; constrained = con; asks = asks; unflushed = fl; target = target_back f s steps q w.0 is of con (subst (λ (u : Components). IsTarget (central u) f q w.0) same w.1) })

-- Who waits is granted, after what rounds bring
use Rattle.std.proofs.Common.{◌≡◌, ◌≢◌, ◌⊎◌, ℕ, zero, suc, ◌+◌, ◌*◌, ◌≤◌, true, false, refl, sym, ◌∙◌, ap, subst, inl, inr, ⊎_elim, arith, List, [], ◌∷◌, ◌++◌, length, Some}
use Rattle.std.proofs.lemmas.Bool.{cases_eq, cases_Bool}
use Rattle.std.proofs.lemmas.List.{append_assoc, append-nil}
use Rattle.hla_base.specs.declared.row.AdvanceRequest.{AdvanceRequest}
use Rattle.hla_base.specs.Rows.{is_next, next_request, reach}
use Rattle.hla_callbacks.specs.declared.callback.Callback.{Callback}
use Rattle.hla_machine.specs.declared.step.Step.{Step}
use Rattle.hla_machine.specs.Central.{BelowAllTso, BelowOut, BelowBound}
use Rattle.hla_machine.proofs.Basics.Rows.{reach_width}
use Rattle.hla_components.specs.Components.{Components}
use Rattle.hla_components.specs.Component.{promise}
use Rattle.hla_components.specs.CentralOf.{central}
use Rattle.hla_components.specs.Invariant.{EachOf}
use Rattle.hla_components.specs.Next.{next}
use Rattle.hla_components.specs.Headline.{IsLedTo, happening, happenings, state_after}
use Rattle.hla_components.proofs.Refinement.LedTo.{led_inv, led_next}
use Rattle.hla_progress.specs.Promises.{is_raised_late}
use Rattle.hla_progress.specs.Rounds.{round, rounds, IsOfRounds, IsGiven, IsGivenAtLast, IsGivenIn}
use Rattle.hla_progress.specs.AtOnce.{due_up_to}
use Rattle.hla_progress.specs.CatchingUp.{IsWaitingFor, IsSlow, NobodyIsSlow}
use Rattle.hla_progress.specs.Creeping.{EachCatchesUp, EachFollowsOne}
use Rattle.hla_progress.proofs.Keeping.Steps.{led_keeps}
use Rattle.hla_progress.proofs.Waiting.Steps.{WaitsOn, step_goes}
use Rattle.hla_progress.proofs.Waiting.Lists.{rounds_of}
use Rattle.hla_progress.proofs.CatchUp.Aims.{IsGrantOf, waiting_next, due_or_none}
use Rattle.hla_progress.proofs.CatchUp.FirstRound.{catches_up_in}
use Rattle.hla_progress.proofs.Creep.OneRound.{StandsAbove, round_after, stands_on, slow_since}
use Rattle.hla_progress.proofs.Creep.TwoRounds.{by_slowness, says_promised, one_round, many_rounds}

-- ---- while it waits
-- f is granted t, or waits on with no more due
abbrev pub GrantedOrWaiting : Components → List Step → ℕ → AdvanceRequest → ℕ → Type 0
GrantedOrWaiting s steps f q t = IsGivenIn (happenings s steps) f (IsGrantOf t) ⊎ (IsWaitingFor (state_after s steps) f q t × (due_up_to (state_after s steps) f t ≤ due_up_to s f t))

pub list_goes : (s : Components) (steps : List Step) (f : ℕ) (q : AdvanceRequest) (t : ℕ) → IsLedTo s → EachOf IsOfRounds steps → IsWaitingFor s f q t → GrantedOrWaiting s steps f q t
list_goes s [] f q t is of w = inr (w, omega arith)
list_goes s (step ∷ steps) f q t is of w = ⊎_elim
    (λ (g : IsGiven (happening step (next s step)) f (IsGrantOf t)). inl (inl g))
    (λ (on : WaitsOn s (next s step).state f t 0). later on (list_goes (next s step).state steps f q t (led_next s step is) of.1 (waiting_next s step f t 0 q t is of.0 on w)))
    (step_goes s f t (IsGrantOf t) (led_inv s is) w.joined (due_or_none s f q t is w) step of.0)
  where
    later : WaitsOn s (next s step).state f t 0 → GrantedOrWaiting (next s step).state steps f q t → GrantedOrWaiting s (step ∷ steps) f q t
    later on (inl g) = inl (inr g)
    later on (inr v) = inr (v.0, omega (arith, v.1, on.less))

-- ---- lists one after another
pub given_in_front : (s : Components) (xs ys : List Step) (f : ℕ) (P : Callback → Type 0) → IsGivenIn (happenings s xs) f P → IsGivenIn (happenings s (xs ++ ys)) f P
given_in_front s [] ys f P g = absurd g
given_in_front s (x ∷ xs) ys f P (inl g) = inl g
given_in_front s (x ∷ xs) ys f P (inr g) = inr (given_in_front (next s x).state xs ys f P g)

pub given_behind : (s : Components) (xs ys : List Step) (f : ℕ) (P : Callback → Type 0) → IsGivenIn (happenings (state_after s xs) ys) f P → IsGivenIn (happenings s (xs ++ ys)) f P
given_behind s [] ys f P g = g
given_behind s (x ∷ xs) ys f P g = inr (given_behind (next s x).state xs ys f P g)

pub given_at_last : (s : Components) (steps : List Step) (f : ℕ) (P : Callback → Type 0) → IsGivenAtLast (happenings s steps) f P → IsGivenIn (happenings s steps) f P
given_at_last s [] f P g = g
given_at_last s (step ∷ steps) f P (inl g) = inl g
given_at_last s (step ∷ steps) f P (inr g) = inr (given_at_last (next s step).state steps f P g.1)

-- so many rounds, and so many
pub rounds_append : (i j n m : ℕ) → rounds (i + j) n m ≡ rounds i n m ++ rounds j n m
rounds_append zero j n m = let e : zero + j ≡ j = omega arith in ap (λ k. rounds k n m) e
rounds_append (suc i) j n m = let e : suc i + j ≡ suc (i + j) = omega arith in
    ap (λ k. rounds k n m) e ∙ ap (λ (steps : List Step). round n m ++ steps) (rounds_append i j n m) ∙ sym (append_assoc (round n m) (rounds i n m) (rounds j n m))

-- ---- the goal stands
-- f itself will send nothing below its goal either
pub own_out : (s : Components) (f : ℕ) (q : AdvanceRequest) (t : ℕ) → IsLedTo s → IsWaitingFor s f q t → BelowOut (BelowAllTso (central s) f) (s.row f) (reach q.kind t)
own_out s f q t is w = ⊎_elim
    (λ (y : is_next q.kind ≡ true). let con = w.constrained in let asks = w.asks in
    let waits : next_request (s.row f) ≡ Some q = rw (con, asks, y) refl in
    inr (rw waits (t, reach_width q.kind t (s.row f).lookahead, (w.target.1 y).0)))
    (λ (n : is_next q.kind ≡ false). let u = w.unflushed in
    let late : is_raised_late (s.row f) q ≡ false = rw (n, u) refl in
    inl (omega (arith, (led_keeps s is).raised f q w.asks late, w.target.0 n, reach_width q.kind t (s.row f).lookahead)))
    (cases_Bool (is_next q.kind))

stands_at : (s : Components) (f n m : ℕ) (q : AdvanceRequest) (t : ℕ) → IsLedTo s → s.directory.next_federate ≤ n + 1 → ((g h : ℕ) → length (s.wire g h) ≤ m) → IsWaitingFor s f q t → BelowBound (central s) f (reach q.kind t) → StandsAbove (reach q.kind t) n m s
stands_at s f n m q t is few short w below = record {
  led = is;
  few = few;
  short = λ g h z. short g h;
  cap = below.0;
  outs = λ g j reg. ⊎_elim
      (λ (e : g ≡ f). subst (λ h. BelowOut (BelowAllTso (central s) h) (s.row h) (reach q.kind t)) (sym e) (own_out s f q t is w))
      (λ (ne : g ≢ f). below.1 g j ne reg)
      (cases_eq g f);
}

-- ---- after rounds that leave nobody slow
module _ (s : Components) (f n m i : ℕ) (q : AdvanceRequest) (t : ℕ) (w : IsWaitingFor s f q t) (st : StandsAbove (reach q.kind t) n m s)
    (on : StandsAbove (reach q.kind t) n m (state_after s (rounds i n m))) (quick : NobodyIsSlow (state_after s (rounds i n m)) f (reach q.kind t)) where
  abbrev later : Components
  later = state_after s (rounds i n m)

  last_rounds : IsWaitingFor later f q t → due_up_to later f t ≤ due_up_to s f t → IsGivenIn (happenings later (rounds (1 + due_up_to s f t) n m)) f (IsGrantOf t)
  last_rounds v less = given_at_last later (rounds (1 + due_up_to s f t) n m) f (IsGrantOf t)
      (catches_up_in later f n m (due_up_to s f t) q t on.led on.few (λ g z. on.short g f z) v (on.cap, λ g j ne reg. on.outs g j reg) quick less)

  pub granted_after : IsGivenIn (happenings s (rounds (i + (1 + due_up_to s f t)) n m)) f (IsGrantOf t)
  granted_after = subst (λ (steps : List Step). IsGivenIn (happenings s steps) f (IsGrantOf t)) (sym (rounds_append i (1 + due_up_to s f t) n m)) (⊎_elim
      (λ (g : IsGivenIn (happenings s (rounds i n m)) f (IsGrantOf t)). given_in_front s (rounds i n m) (rounds (1 + due_up_to s f t) n m) f (IsGrantOf t) g)
      (λ (v : IsWaitingFor later f q t × (due_up_to later f t ≤ due_up_to s f t)). given_behind s (rounds i n m) (rounds (1 + due_up_to s f t) n m) f (IsGrantOf t) (last_rounds v.0 v.1))
      (list_goes s (rounds i n m) f q t st.led (rounds_of i n m) w))

-- ---- the theorems
pub catches_up_creeping : EachCatchesUp
catches_up_creeping s f n m k y w q t is few short waits below promised wide near =
    let x = reach q.kind t in
    let st = stands_at s f n m q t is few short waits below in
    let many = many_rounds x n m w k y s st wide (says_promised x n m s st y promised) in
    let quick : NobodyIsSlow (state_after s (rounds (2 * k) n m)) f x = λ g j ne a. (let l = many.says g a.regulates in let low = a.low in omega arith) in
    let order : 2 * k + (1 + due_up_to s f t) ≡ 1 + 2 * k + due_up_to s f t = omega arith in
    subst (λ j. IsGivenIn (happenings s (rounds j n m)) f (IsGrantOf t)) order (granted_after s f n m (2 * k) q t waits st many.stands quick)

pub follows_one : EachFollowsOne
follows_one s f n m q t is few short waits below one =
    let x = reach q.kind t in
    let st = stands_at s f n m q t is few short waits below in
    let order : 1 + (1 + due_up_to s f t) ≡ 2 + due_up_to s f t = omega arith in
    subst (λ j. IsGivenIn (happenings s (rounds j n m)) f (IsGrantOf t)) order (granted_after s f n m 1 q t waits st (after_one st) (λ g j ne a. nobody st g a))
  where
    same_after : state_after s (rounds 1 n m) ≡ round_after n m s
    same_after = ap (λ (steps : List Step). state_after s steps) (append-nil (round n m))

    after_one : StandsAbove (reach q.kind t) n m s → StandsAbove (reach q.kind t) n m (state_after s (rounds 1 n m))
    after_one st = subst (λ (u : Components). StandsAbove (reach q.kind t) n m u) (sym same_after) (stands_on (reach q.kind t) n m s st)

    -- what all others said lets the one that was slow say it too
    nobody : (st : StandsAbove (reach q.kind t) n m s) (g : ℕ) → IsSlow (state_after s (rounds 1 n m)) (reach q.kind t) g → ⊥
    nobody st g a =
        let x = reach q.kind t in
        let b : IsSlow (round_after n m s) x g = subst (λ (u : Components). IsSlow u x g) same_after a in
        let was = slow_since x n m s st g b in
        let l = one_round x n m s st x st.cap g (λ h ne reg. by_slowness x n m s st (x ≤ promise s h) h reg (λ l. l) (λ c. absurd (ne (one h g c was)))) b in
        let low = b.low in omega arith

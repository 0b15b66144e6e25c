-- Lists of steps, and rounds
use Rattle.std.proofs.Common.{◌≡◌, ◌≢◌, ℕ, zero, suc, ◌+◌, ◌≤◌, ◌<◌, eqb, true, refl, ◌∙◌, inl, inr, ⊎_elim, arith, eq-eqb, List, [], ◌∷◌, ◌++◌, replicate, Option, Some, le_trans, ap, false, subst}
use Rattle.std.proofs.lemmas.Bool.{cases_eq, cond_both}
use Rattle.hla_base.specs.Tables.{one_if, forever}
use Rattle.hla_callbacks.specs.declared.callback.Callback.{Callback}
use Rattle.hla_machine.specs.declared.step.Step.{Step}
use Rattle.hla_machine.specs.declared.step.Step.TheVariants.{Carry, Tick}
use Rattle.hla_components.specs.Components.{Components}
use Rattle.hla_components.specs.Invariant.{EachOf, Inv}
use Rattle.hla_components.specs.Headline.{IsLedTo, happening, happenings}
use Rattle.hla_components.specs.Next.{next}
use Rattle.hla_components.proofs.Basics.Each.{EachOf-append}
use Rattle.hla_components.proofs.Refinement.LedTo.{led_inv, led_next}
use Rattle.hla_callbacks.specs.declared.callback.Callback.TheVariants as callback
use Rattle.hla_base.specs.declared.row.AdvanceRequest.{AdvanceRequest}
use Rattle.hla_base.specs.Rows.{is_constrained, is_enabled, is_next, is_flush, reach}
use Rattle.hla_base.proofs.Tables.{least_le-forever}
use Rattle.hla_components.specs.Component.{local_bound}
use Rattle.hla_progress.specs.Rounds.{announcements, carries_from, carries_to, ticks, round, rounds, IsOfRounds, is_tick_of, ticks_of, IsGiven, IsGivenAtLast}
use Rattle.hla_progress.specs.AtOnce.{WaitsForNobody, IsAwaited, asked_time, due_up_to, due_before, EachTickAnswersAtOnce, EachComesAtOnce, EachReachedComesAtOnce}
use Rattle.hla_progress.proofs.Keeping.Numbers.{joined_from_one}
use Rattle.hla_progress.proofs.Waiting.Picks.{IsDuePick, pick_due, pick_reached}
use Rattle.hla_progress.proofs.Waiting.Steps.{WaitsOn, step_brings, picked_at, bound_rises}

-- what makes each pick of f due, and lasts while f waits
module _ (f limit : ℕ) (P : Callback → Type 0) (C : Components → Type 0) (due : (s : Components) → IsLedTo s → C s → IsDuePick (s.row f) limit P (picked_at s f))
    (lasts : (s : Components) (step : Step) (x : ℕ) → IsLedTo s → IsOfRounds step → WaitsOn s (next s step).state f limit x → C s → C (next s step).state) where
  pub list_brings : (s : Components) (steps : List Step) → IsLedTo s → s.directory.joined f ≡ true → C s → EachOf IsOfRounds steps → due_up_to s f limit < ticks_of f steps → IsGivenAtLast (happenings s steps) f P
  list_brings s [] is member c of less = absurd (omega (arith, less))
  list_brings s (step ∷ steps) is member c of less = ⊎_elim
      (λ (g : IsGiven (happening step (next s step)) f P). inl g)
      (λ (w : (is_tick_of f step ≡ true → IsGiven (happening step (next s step)) f (λ _. Unit {0})) × WaitsOn s (next s step).state f limit (one_if (is_tick_of f step))).
      inr (w.0, list_brings (next s step).state steps (led_next s step is) (w.1.joined ∙ member) (lasts s step _ is of.0 w.1 c) of.1 (omega (arith, less, w.1.less))))
      (step_brings s f limit P (led_inv s is) member (due s is c) step of.0)

-- ---- who waits for nobody
-- what it waits for is what P says
pub record WaitsAs (f : ℕ) (P : Callback → Type 0) (s : Components) : Type 0 where
  pub waits : WaitsForNobody (s.row f)
  pub same : (k : Callback) → IsAwaited (s.row f) k → P k

pub tick_answers : EachTickAnswersAtOnce
tick_answers s steps f is member waits of less = let limit = asked_time (s.row f).advance in list_brings f limit (IsAwaited (s.row f)) (WaitsAs f (IsAwaited (s.row f)))
    (λ t led w. pick_due (t.row f) (local_bound t f) limit (IsAwaited (s.row f)) w.same (t.controls f) (t.ro f) (t.tso f) ((led_inv t led).kept.time.rows f) w.waits)
    (λ t step x led o on w. record { waits = on.waits w.waits; same = λ k a. w.same k (on.same k a) })
    s steps is member (record { waits = waits; same = λ k a. a }) of less

-- ---- a goal that is reached
-- a constrained federate in Time Advance Request (Available), whose goal is at most the least bound that it knows
pub record HasReached (q : AdvanceRequest) (f : ℕ) (s : Components) : Type 0 where
  pub asks : (s.row f).advance ≡ Some q
  pub constrained : is_constrained (s.row f) ≡ true
  pub within : reach q.kind q.asked ≤ local_bound s f

reached_lasts : (q : AdvanceRequest) (f limit : ℕ) (s t : Components) (x : ℕ) → WaitsOn s t f limit x → HasReached q f s → HasReached q f t
reached_lasts q f limit s t x w h = record {
  asks = w.advance ∙ h.asks;
  constrained = ap is_enabled w.constrained ∙ h.constrained;
  within = le_trans h.within (bound_rises s t f limit x w);
}

-- what f asks for is a number of 64 bits
pub asked_cap : (s : Components) (f : ℕ) (q : AdvanceRequest) → Inv s → (s.row f).advance ≡ Some q → q.asked ≤ forever
asked_cap s f q inv asks = omega (arith, (inv.numbers f).asked q asks)

reached_is_due : (q : AdvanceRequest) (f : ℕ) → is_next q.kind ≡ false → is_flush q.kind ≡ false → (s : Components) → IsLedTo s → HasReached q f s → IsDuePick (s.row f) q.asked (λ k. k ≡ callback.TimeAdvanceGrant q.asked) (picked_at s f)
reached_is_due q f nx fl s is h = pick_reached (s.row f) (local_bound s f) q.asked (λ k. k ≡ callback.TimeAdvanceGrant q.asked) refl q h.asks h.constrained fl h.within (s.controls f) (s.ro f) (s.tso f)
    (record { plain = λ _. refl; next = λ y. absurd (cc); asked = omega arith; waiting = λ y. absurd (cc); cap = asked_cap s f q (led_inv s is) h.asks })
    (least_le-forever s.directory.next_federate (s.bound f)) ((led_inv s is).kept.time.rows f)

pub reached_comes : EachReachedComesAtOnce
reached_comes s steps f q is member con asks nx fl within of less = list_brings f q.asked (λ k. k ≡ callback.TimeAdvanceGrant q.asked) (HasReached q f) (reached_is_due q f nx fl) (λ t step x led o on h. reached_lasts q f q.asked t _ x on h) s steps is member
    (record { asks = asks; constrained = con; within = within }) of (subst (λ (o : Option AdvanceRequest). due_up_to s f (asked_time o) < ticks_of f steps) asks less)

-- ---- rounds
pub ticks_of-append : (f : ℕ) (xs ys : List Step) → ticks_of f (xs ++ ys) ≡ ticks_of f xs + ticks_of f ys
ticks_of-append f [] ys = omega arith
ticks_of-append f (x ∷ xs) ys = omega (arith, ticks_of-append f xs ys)

pub everyone_ticks : (f n : ℕ) → 1 ≤ f → f ≤ n → 1 ≤ ticks_of f (ticks n)
unfolding ticks
everyone_ticks f zero a b = absurd (omega arith)
everyone_ticks f (suc n) a b = ⊎_elim
    (λ (e : f ≡ suc n). let y : eqb f (suc n) ≡ true = eq-eqb f (suc n) e in let l : ticks_of f (Tick (suc n) ∷ []) ≡ 1 = rw y refl in omega (arith, ticks_of-append f (ticks n) (Tick (suc n) ∷ []), l))
    (λ (ne : f ≢ suc n). omega (arith, ticks_of-append f (ticks n) (Tick (suc n) ∷ []), everyone_ticks f n a (omega arith)))
    (cases_eq f (suc n))

round_ticks : (f n m : ℕ) → 1 ≤ f → f ≤ n → 1 ≤ ticks_of f (round n m)
round_ticks f n m a b = omega (arith, ticks_of-append f (announcements n) (carries_to n (m + 1) n ++ ticks n), ticks_of-append f (carries_to n (m + 1) n) (ticks n), everyone_ticks f n a b)

pub rounds_tick : (k f n m : ℕ) → 1 ≤ f → f ≤ n → k ≤ ticks_of f (rounds k n m)
rounds_tick zero f n m a b = omega arith
rounds_tick (suc k) f n m a b = omega (arith, ticks_of-append f (round n m) (rounds k n m), round_ticks f n m a b, rounds_tick k f n m a b)

pub announcements_of : (n : ℕ) → EachOf IsOfRounds (announcements n)
unfolding announcements
announcements_of zero = tt
announcements_of (suc n) = EachOf-append IsOfRounds (announcements n) _ (announcements_of n) (tt, tt)

pub ticks_are : (n : ℕ) → EachOf IsOfRounds (ticks n)
unfolding ticks
ticks_are zero = tt
ticks_are (suc n) = EachOf-append IsOfRounds (ticks n) _ (ticks_are n) (tt, tt)

carried_often : (k g f : ℕ) → EachOf IsOfRounds (replicate k (Carry g f))
carried_often zero g f = tt
carried_often (suc k) g f = (tt, carried_often k g f)

carries_from_of : (g times n : ℕ) → EachOf IsOfRounds (carries_from g times n)
unfolding carries_from
carries_from_of g times zero = tt
carries_from_of g times (suc n) = EachOf-append IsOfRounds (carries_from g times n) _ (carries_from_of g times n)
    (cond_both (eqb g (suc n)) [] (replicate times (Carry g (suc n))) (EachOf IsOfRounds) (λ _. tt) (λ _. carried_often times g (suc n)))

pub carries_to_of : (n times g : ℕ) → EachOf IsOfRounds (carries_to n times g)
unfolding carries_to
carries_to_of n times zero = tt
carries_to_of n times (suc g) = EachOf-append IsOfRounds (carries_to n times g) _ (carries_to_of n times g) (carries_from_of (suc g) times n)

pub round_of : (n m : ℕ) → EachOf IsOfRounds (round n m)
round_of n m = EachOf-append IsOfRounds (announcements n) _ (announcements_of n) (EachOf-append IsOfRounds (carries_to n (m + 1) n) _ (carries_to_of n (m + 1) n) (ticks_are n))

pub rounds_of : (k n m : ℕ) → EachOf IsOfRounds (rounds k n m)
rounds_of zero n m = tt
rounds_of (suc k) n m = EachOf-append IsOfRounds (round n m) _ (round_of n m) (rounds_of k n m)

pub comes_at_once : EachComesAtOnce
comes_at_once s f n m is member few waits =
    let low : 1 ≤ f = joined_from_one s f is member in
    let below : f < s.directory.next_federate = (led_inv s is).kept.directory.members f member in
    tick_answers s (rounds (1 + due_before s f) n m) f is member waits (rounds_of (1 + due_before s f) n m) (omega (arith, rounds_tick (1 + due_before s f) f n m low (omega (arith, below, few))))

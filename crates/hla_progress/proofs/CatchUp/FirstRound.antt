-- The first round, and the rounds after it
use Rattle.std.proofs.Common.{◌≡◌, ◌≢◌, inr, ℕ, zero, suc, ◌+◌, ◌≤◌, ◌<◌, Bool, true, false, refl, sym, ap, ◌∙◌, subst, ⊎_elim, arith, le_trans, List, [], ◌∷◌, ◌++◌, length, Option, Some, None}
use Rattle.std.proofs.lemmas.Bool.{cases_lt}
use Rattle.std.proofs.lemmas.List.{append_assoc}
use Rattle.hla_base.specs.declared.row.AdvanceRequest.{AdvanceRequest}
use Rattle.hla_base.specs.declared.row.TimeRow.{TimeRow}
use Rattle.hla_base.specs.Rows.{is_regulator, next_request, reach}
use Rattle.hla_base.specs.Tables.{one_if}
use Rattle.hla_callbacks.specs.declared.callback.Callback.{Callback}
use Rattle.hla_null_message.specs.Promise.{promise_in}
use Rattle.hla_component_rules.specs.Queues.{first_stamp}
use Rattle.hla_machine.specs.declared.step.Step.{Step}
use Rattle.hla_machine.specs.declared.step.Step.TheVariants.{Join, Call, Carry, Announce, Tick}
use Rattle.hla_machine.specs.Central.{BelowBound, BelowOut, BelowRequest, BelowAllTso}
use Rattle.hla_components.specs.Components.{Components}
use Rattle.hla_components.specs.Component.{local_bound, promise}
use Rattle.hla_components.specs.CentralOf.{central}
use Rattle.hla_components.specs.Invariant.{EachOf}
use Rattle.hla_components.specs.Next.{next}
use Rattle.hla_components.specs.Headline.{IsLedTo, happenings, state_after}
use Rattle.hla_components.proofs.Basics.Each.{EachOf-append}
use Rattle.hla_components.proofs.Refinement.LedTo.{led_inv, led_next}
use Rattle.hla_progress.specs.Rounds.{announcements, carries_to, ticks, rounds, IsOfRounds, is_tick_of, ticks_of, IsGivenAtLast}
use Rattle.hla_progress.specs.AtOnce.{due_up_to}
use Rattle.hla_progress.specs.CatchingUp.{IsWaitingFor, IsSlow, NobodyIsSlow, EachCatchesUpInARound}
use Rattle.hla_progress.proofs.Keeping.Numbers.{joined_from_one}
use Rattle.hla_progress.proofs.Waiting.Picks.{IsDuePick}
use Rattle.hla_progress.proofs.Waiting.Steps.{WaitsOn, other_waits, unchanged, picked_at}
use Rattle.hla_progress.proofs.Waiting.Lists.{list_brings, ticks_of-append, everyone_ticks, rounds_tick, announcements_of, ticks_are, carries_to_of, rounds_of}
use Rattle.hla_progress.proofs.CatchUp.Carried.{IsCarry, to_are}
use Rattle.hla_progress.proofs.CatchUp.Aims.{IsGrantOf, AtGoal, at_goal_due, at_goal_lasts, waiting_next}
use Rattle.hla_progress.proofs.CatchUp.Heard.{said, carried, led_said, led_carried, all_heard, nulls_alone}

-- ---- steps before the first tick of f
pub waits_trans : (s t u : Components) (f limit : ℕ) → WaitsOn s t f limit 0 → WaitsOn t u f limit 0 → WaitsOn s u f limit 0
waits_trans s t u f limit a b = record {
  joined = b.joined ∙ a.joined;
  waits = λ w. b.waits (a.waits w);
  same = λ k x. a.same k (b.same k x);
  less = omega (arith, a.less, b.less);
  advance = b.advance ∙ a.advance;
  constrained = b.constrained ∙ a.constrained;
  regulating = b.regulating ∙ a.regulating;
  time = b.time ∙ a.time;
  regulation = b.regulation ∙ a.regulation;
  bounds = λ g. le_trans (a.bounds g) (b.bounds g);
  numbers = b.numbers ∙ a.numbers;
}

no_tick : (b : Bool) (n : ℕ) → one_if b + n ≡ 0 → b ≡ false
no_tick true n e = absurd (omega arith)
no_tick false n e = refl

later_none : (b : Bool) (n : ℕ) → one_if b + n ≡ 0 → n ≡ 0
later_none b n e = omega (arith, e)

module _ (f limit : ℕ) where
  waits_through : (s : Components) (steps : List Step) → IsLedTo s → EachOf IsOfRounds steps → ticks_of f steps ≡ 0 → WaitsOn s (state_after s steps) f limit 0
  waits_through s [] is of none = unchanged s f limit
  waits_through s (step ∷ steps) is of none = waits_trans s (next s step).state (state_after (next s step).state steps) f limit
      (other_waits s f limit step (led_inv s is) of.0 (no_tick (is_tick_of f step) (ticks_of f steps) none))
      (waits_through (next s step).state steps (led_next s step is) of.1 (later_none (is_tick_of f step) (ticks_of f steps) none))

  waiting_through : (q : AdvanceRequest) (t : ℕ) (s : Components) (steps : List Step) → IsLedTo s → EachOf IsOfRounds steps → ticks_of f steps ≡ 0 → IsWaitingFor s f q t → IsWaitingFor (state_after s steps) f q t
  waiting_through q t s [] is of none w = w
  waiting_through q t s (step ∷ steps) is of none w = waiting_through q t (next s step).state steps (led_next s step is) of.1 (later_none (is_tick_of f step) (ticks_of f steps) none)
      (waiting_next s step f limit 0 q t is of.0 (other_waits s f limit step (led_inv s is) of.0 (no_tick (is_tick_of f step) (ticks_of f steps) none)) w)

given_later : (s : Components) (xs ys : List Step) (f : ℕ) (P : Callback → Type 0) → ticks_of f xs ≡ 0 → IsGivenAtLast (happenings (state_after s xs) ys) f P → IsGivenAtLast (happenings s (xs ++ ys)) f P
given_later s [] ys f P none g = g
given_later s (x ∷ xs) ys f P none g = inr (λ y. absurd (let n = no_tick (is_tick_of f x) (ticks_of f xs) none in cc), given_later (next s x).state xs ys f P (later_none (is_tick_of f x) (ticks_of f xs) none) g)

announcements_tick : (f n : ℕ) → ticks_of f (announcements n) ≡ 0
unfolding announcements
announcements_tick f zero = refl
announcements_tick f (suc n) = omega (arith, ticks_of-append f (announcements n) (Announce (suc n) ∷ []), announcements_tick f n)

carries_tick : (f : ℕ) (steps : List Step) → EachOf IsCarry steps → ticks_of f steps ≡ 0
carries_tick f [] of = refl
carries_tick f (Join name ∷ steps) of = absurd of.0
carries_tick f (Call h x ∷ steps) of = absurd of.0
carries_tick f (Carry h l ∷ steps) of = omega (arith, carries_tick f steps of.1)
carries_tick f (Announce h ∷ steps) of = absurd of.0
carries_tick f (Tick h ∷ steps) of = absurd of.0

-- ---- who is not slow promises the goal
pub floor_le : (r : TimeRow) (o : Option AdvanceRequest) (queued bound : ℕ) → r.floor ≤ promise_in r o queued bound
floor_le r None queued bound = omega arith
floor_le r (Some x) queued bound = omega arith

pub slow_by : (s : Components) (x g : ℕ) (o : Option AdvanceRequest) → next_request (s.row g) ≡ o → is_regulator (s.row g) ≡ true → promise s g < x → BelowRequest (BelowAllTso (central s) g) (s.row g) o x → IsSlow s x g
slow_by s x g None is reg low below = absurd below
slow_by s x g (Some q) is reg low below = record { regulates = reg; request = q; waits = is; low = low }

-- a regulator that may send nothing below x promises x, or is slow for it
pub promised_or_slow : (s : Components) (x g : ℕ) → is_regulator (s.row g) ≡ true → BelowOut (BelowAllTso (central s) g) (s.row g) x → (IsSlow s x g → x ≤ promise s g) → x ≤ promise s g
promised_or_slow s x g reg out slow = ⊎_elim
    (λ (l : promise s g < x). ⊎_elim
    (λ (a : x ≤ (s.row g).floor). le_trans a (floor_le (s.row g) (next_request (s.row g)) (first_stamp (s.tso g)) (local_bound s g)))
    (λ (b : BelowRequest (BelowAllTso (central s) g) (s.row g) (next_request (s.row g)) x). slow (slow_by s x g (next_request (s.row g)) refl reg l b))
    out)
    (λ (l : x ≤ promise s g). l)
    (cases_lt (promise s g) x)

-- ---- the rounds
-- the first round, and what follows its carries
regroup : (n m d : ℕ) → rounds (1 + d) n m ≡ announcements n ++ (carries_to n (m + 1) n ++ (ticks n ++ rounds d n m))
regroup n m d =
    let one_more : 1 + d ≡ suc d = omega arith in
    ap (λ k. rounds k n m) one_more
    ∙ append_assoc (announcements n) (carries_to n (m + 1) n ++ ticks n) (rounds d n m)
    ∙ ap (λ (steps : List Step). announcements n ++ steps) (append_assoc (carries_to n (m + 1) n) (ticks n) (rounds d n m))

enough_ticks : (f n m d : ℕ) → 1 ≤ f → f ≤ n → d < ticks_of f (ticks n ++ rounds d n m)
enough_ticks f n m d a b = omega (arith, ticks_of-append f (ticks n) (rounds d n m), everyone_ticks f n a b, rounds_tick d f n m a b)

-- what comes after the first carries comes in the rounds
pub after_first : (s : Components) (f n m d : ℕ) (P : Callback → Type 0) → IsGivenAtLast (happenings (carried s n m) (ticks n ++ rounds d n m)) f P → IsGivenAtLast (happenings s (rounds (1 + d) n m)) f P
after_first s f n m d P ends = subst (λ (steps : List Step). IsGivenAtLast (happenings s steps) f P) (sym (regroup n m d))
    (given_later s (announcements n) (carries_to n (m + 1) n ++ (ticks n ++ rounds d n m)) f P (announcements_tick f n)
    (given_later (said s n m) (carries_to n (m + 1) n) (ticks n ++ rounds d n m) f P (carries_tick f (carries_to n (m + 1) n) (to_are (m + 1) n n)) ends))

pub rest_of : (n m d : ℕ) → EachOf IsOfRounds (ticks n ++ rounds d n m)
rest_of n m d = EachOf-append IsOfRounds (ticks n) (rounds d n m) (ticks_are n) (rounds_of d n m)

pub rest_ticks : (s : Components) (f n m d : ℕ) → IsLedTo s → s.directory.joined f ≡ true → s.directory.next_federate ≤ n + 1 → d < ticks_of f (ticks n ++ rounds d n m)
rest_ticks s f n m d is member few = let counts : f < s.directory.next_federate = (led_inv s is).kept.directory.members f member in enough_ticks f n m d (joined_from_one s f is member) (omega (arith, counts, few))

module _ (s : Components) (f n m d limit : ℕ) (P : Callback → Type 0) (is : IsLedTo s) (member : s.directory.joined f ≡ true) (few : s.directory.next_federate ≤ n + 1) (enough : due_up_to s f limit ≤ d) where
  -- f waits on until the carries of the first round are done
  pub waits_carried : WaitsOn s (carried s n m) f limit 0
  waits_carried = waits_trans s (said s n m) (carried s n m) f limit
      (waits_through f limit s (announcements n) is (announcements_of n) (announcements_tick f n))
      (waits_through f limit (said s n m) (carries_to n (m + 1) n) (led_said s n m is) (carries_to_of n (m + 1) n) (carries_tick f (carries_to n (m + 1) n) (to_are (m + 1) n n)))

  pub waiting_carried : (q : AdvanceRequest) (t : ℕ) → IsWaitingFor s f q t → IsWaitingFor (carried s n m) f q t
  waiting_carried q t w = waiting_through f limit q t (said s n m) (carries_to n (m + 1) n) (led_said s n m is) (carries_to_of n (m + 1) n) (carries_tick f (carries_to n (m + 1) n) (to_are (m + 1) n n))
      (waiting_through f limit q t s (announcements n) is (announcements_of n) (announcements_tick f n) w)

  -- what makes each pick due from then on brings the callback in time
  pub rounds_bring : (C : Components → Type 0) → ((t : Components) → IsLedTo t → C t → IsDuePick (t.row f) limit P (picked_at t f))
      → ((t : Components) (step : Step) (x : ℕ) → IsLedTo t → IsOfRounds step → WaitsOn t (next t step).state f limit x → C t → C (next t step).state)
      → C (carried s n m) → IsGivenAtLast (happenings s (rounds (1 + d) n m)) f P
  rounds_bring C due lasts c = after_first s f n m d P (list_brings f limit P C due lasts (carried s n m) (ticks n ++ rounds d n m) (led_carried s n m is) (waits_carried.joined ∙ member) c (rest_of n m d)
      (omega (arith, waits_carried.less, enough, rest_ticks s f n m d is member few)))

-- ---- the goal is known
pub goal_known : (s : Components) (f n m x : ℕ) → IsLedTo s → s.directory.joined f ≡ true → s.directory.next_federate ≤ n + 1 → ((g : ℕ) → g ≢ 0 → length (s.wire g f) ≤ m) → BelowBound (central s) f x → NobodyIsSlow s f x → x ≤ local_bound (carried s n m) f
goal_known s f n m x is member few short below quick = all_heard s n m is few f member short x below.0
    (λ g ne j reg. promised_or_slow s x g reg (below.1 g j ne reg) (λ slow. absurd (quick g j ne slow)))

pub catches_up_in : (s : Components) (f n m d : ℕ) (q : AdvanceRequest) (t : ℕ) → IsLedTo s → s.directory.next_federate ≤ n + 1 → ((g : ℕ) → g ≢ 0 → length (s.wire g f) ≤ m)
    → IsWaitingFor s f q t → BelowBound (central s) f (reach q.kind t) → NobodyIsSlow s f (reach q.kind t) → due_up_to s f t ≤ d → IsGivenAtLast (happenings s (rounds (1 + d) n m)) f (IsGrantOf t)
catches_up_in s f n m d q t is few short w below quick enough = rounds_bring s f n m d t (IsGrantOf t) is w.joined few enough (AtGoal q t f) (at_goal_due q t f) (at_goal_lasts q t f) (record {
  waiting = waiting_carried s f n m d t (IsGrantOf t) is w.joined few enough q t w;
  within = goal_known s f n m (reach q.kind t) is w.joined few short below quick;
  nulls = nulls_alone s n m is few f w.joined short;
})

pub catches_up : EachCatchesUpInARound
catches_up s f n m q t is few short w below quick = catches_up_in s f n m (due_up_to s f t) q t is few (λ g _. short g) w below quick (omega arith)

-- The federate with the least goal is granted
use Rattle.std.proofs.Common.{◌≡◌, ℕ, ◌+◌, ◌*◌, ◌≤◌, ◌<◌, cond, Bool, true, false, refl, sym, subst, inl, inr, le_trans, ⊎_elim, arith, List, [], ◌∷◌, length, Option, Some, None}
use Rattle.std.proofs.lemmas.Bool.{cases_lt, cases_Bool}
use Rattle.std.proofs.Math.Nat.{mul-one}
use Rattle.hla_base.specs.declared.row.AdvanceRequest.{AdvanceRequest}
use Rattle.hla_base.specs.declared.row.TimeRow.{TimeRow}
use Rattle.hla_base.specs.Tables.{forever}
use Rattle.hla_base.specs.Rows.{is_strict, is_next, is_flush, is_constrained, is_advancing, next_request, width, reach}
use Rattle.hla_callbacks.specs.declared.callback.Callback.{Callback}
use Rattle.hla_machine.specs.Central.{BelowAllTso, BelowWake, BelowOut, BelowRequest, BelowBound}
use Rattle.hla_machine.specs.Runs.{Happening}
use Rattle.hla_components.specs.Components.{Components}
use Rattle.hla_components.specs.CentralOf.{central}
use Rattle.hla_components.specs.Headline.{IsLedTo, happenings}
use Rattle.hla_components.proofs.Refinement.LedTo.{led_inv}
use Rattle.hla_progress.specs.Promises.{is_raised_late}
use Rattle.hla_progress.specs.Rounds.{rounds, IsGivenIn}
use Rattle.hla_progress.specs.AtOnce.{IsAwaited, asked_time, due_up_to, due_before}
use Rattle.hla_progress.specs.CatchingUp.{IsWaitingFor, IsSlow}
use Rattle.hla_progress.specs.Creeping.{EachPairIsWide}
use Rattle.hla_progress.specs.GettingOn.{NobodyIsBefore, EachLeastIsGranted, EachRegulatorAdvances, IsOfNoWidth, NoTwoHold, SomebodyIsGranted, NobodyLocksUp, NobodyLocksUpWithWidths}
use Rattle.hla_progress.proofs.Keeping.Changes.{next_asked}
use Rattle.hla_progress.proofs.Waiting.Lists.{comes_at_once}
use Rattle.hla_progress.proofs.CatchUp.Aims.{IsGrantOf}
use Rattle.hla_progress.proofs.Creep.Granted.{own_out, given_at_last, catches_up_creeping}
use Rattle.hla_progress.proofs.GettingOn.Exists.{waits_for}
use Rattle.hla_progress.proofs.GettingOn.Limits.{up_to_more}
use Rattle.hla_progress.proofs.GettingOn.Least.{Free, some_free, AllBound, NobodyIn, Least, least_of_all}

-- ---- the least goal is at most the bound
request_less : (below : ℕ → Type 0) (r : TimeRow) (o : Option AdvanceRequest) (v x : ℕ) → x ≤ v → BelowRequest below r o v → BelowRequest below r o x
request_less below r None v x l b = b
request_less below r (Some q) v x l b = (b.0, le_trans l b.1, b.2)

out_less : (below : ℕ → Type 0) (r : TimeRow) (v x : ℕ) → x ≤ v → BelowOut below r v → BelowOut below r x
out_less below r v x l (inl a) = inl (le_trans l a)
out_less below r v x l (inr b) = inr (request_less below r (next_request r) v x l b)

module _ (s : Components) (f : ℕ) (q : AdvanceRequest) (t : ℕ) (is : IsLedTo s) (w : IsWaitingFor s f q t) where
  target_asked : t ≤ q.asked
  target_asked = ⊎_elim
      (λ (y : is_next q.kind ≡ true). by_first (s.row f).first_pick refl ((w.target.1 y).0))
      (λ (n : is_next q.kind ≡ false). omega (arith, w.target.0 n))
      (cases_Bool (is_next q.kind))
    where
      by_first : (o : Option ℕ) → (s.row f).first_pick ≡ o → BelowWake (BelowAllTso (central s) f) q o t → t ≤ q.asked
      by_first None first b = b.0
      by_first (Some p) first b = omega (arith, b, ((led_inv s is).numbers f).first q p w.asks first)

  reach_next : reach q.kind t ≤ t + 1
  reach_next = by_kind (is_strict q.kind)
    where
      by_kind : (b : Bool) → cond b (t + 1) t ≤ t + 1
      by_kind true = omega arith
      by_kind false = omega arith

  goal_cap : reach q.kind t ≤ forever
  goal_cap = omega (arith, target_asked, ((led_inv s is).numbers f).asked q w.asks, reach_next)

  soon_enough : 1 + 2 * reach q.kind t + due_up_to s f t ≤ 1 + 2 * (asked_time (s.row f).advance + 1) + due_before s f
  soon_enough = subst (λ (o : Option AdvanceRequest). 1 + 2 * reach q.kind t + due_up_to s f t ≤ 1 + 2 * (asked_time o + 1) + due_up_to s f (asked_time o)) (sym w.asks)
      (omega (arith, reach_next, target_asked, up_to_more s f t q.asked target_asked))

  least_bound_of : NobodyIsBefore s f (reach q.kind t) → BelowBound (central s) f (reach q.kind t)
  least_bound_of first = (goal_cap, λ g j ne reg. let b = first g j ne reg in out_less (BelowAllTso (central s) g) (s.row g) (reach b.0.kind b.1) (reach q.kind t) b.3 (own_out s g b.0 b.1 is b.2))

  -- what is granted is what it waits for
  awaited : (k : Callback) → IsGrantOf t k → IsAwaited (s.row f) k
  awaited k e = subst (λ (k : Callback). IsAwaited (s.row f) k) (sym e) (q, w.asks, target_asked, exact)
    where
      exact : is_raised_late (s.row f) q ≡ false → t ≡ q.asked
      exact n = ⊎_elim
          (λ (y : is_next q.kind ≡ true). absurd (let con = w.constrained in let no : true ≡ false = rw (y, con) at n in cc))
          (λ (plain : is_next q.kind ≡ false). w.target.0 plain)
          (cases_Bool (is_next q.kind))

pub least_is_granted : EachLeastIsGranted
least_is_granted s f n m q t is few short w first wide = catches_up_creeping s f n m (reach q.kind t) 0 1 q t is few short w (least_bound_of s f q t is w first)
    (λ g a. omega arith) wide (omega (arith, mul-one (reach q.kind t)))

-- ---- somebody is granted
given_as : (hs : List Happening) (f : ℕ) (P Q : Callback → Type 0) → ((k : Callback) → P k → Q k) → IsGivenIn hs f P → IsGivenIn hs f Q
given_as [] f P Q to g = g
given_as (h ∷ hs) f P Q to (inl g) = inl (g.0, g.1, to g.0 g.2)
given_as (h ∷ hs) f P Q to (inr g) = inr (given_as hs f P Q to g)

no_width : (s : Components) (x g : ℕ) (a : IsSlow s x g) → width (s.row g).lookahead a.request.kind ≡ 0 → IsOfNoWidth s g
no_width s x g a e = record { regulates = a.regulates; request = a.request; waits = a.waits; narrow = e }

wide_enough : (s : Components) (x : ℕ) → NoTwoHold s → EachPairIsWide s x 1
wide_enough s x none g h ne a b = ⊎_elim
    (λ (l : 0 < width (s.row g).lookahead a.request.kind + width (s.row h).lookahead b.request.kind). l)
    (λ (l : width (s.row g).lookahead a.request.kind + width (s.row h).lookahead b.request.kind ≤ 0). absurd (none g h ne (no_width s x g a (omega arith)) (no_width s x h b (omega arith))))
    (cases_lt 0 (width (s.row g).lookahead a.request.kind + width (s.row h).lookahead b.request.kind))

module _ (s : Components) (n m : ℕ) (is : IsLedTo s) (few : s.directory.next_federate ≤ n + 1) (short : (g h : ℕ) → length (s.wire g h) ≤ m) where
  targets : (g : ℕ) (q : AdvanceRequest) → s.directory.joined g ≡ true → is_constrained (s.row g) ≡ true → (s.row g).advance ≡ Some q → is_flush q.kind ≡ false → (t : ℕ) × IsWaitingFor s g q t
  targets g q member con asks fl = waits_for s g n m q is few short member con asks fl

  free_granted : Free s targets → SomebodyIsGranted s n m
  free_granted f = record {
    federate = f.0;
    joined = f.1.0;
    advances = f.1.1;
    count = 1 + due_before s f.0;
    soon = omega arith;
    given = given_at_last s (rounds (1 + due_before s f.0) n m) f.0 (IsAwaited (s.row f.0)) (comes_at_once s f.0 n m is f.1.0 few f.2);
  }

  least_granted : EachRegulatorAdvances s → NoTwoHold s → Least s targets s.directory.next_federate → SomebodyIsGranted s n m
  least_granted all none l =
      let f = l.federate in let q = l.target.0 in let t = l.target.1 in let w : IsWaitingFor s f q t = l.target.2 in
      let first : NobodyIsBefore s f (reach q.kind t) = λ g j ne reg. (let v = l.least g ((led_inv s is).kept.directory.members g j) (j, all g j reg) in (v.0.0, v.0.1, v.0.2, v.1)) in
      record {
        federate = f;
        joined = w.joined;
        advances = l.is.1;
        count = 1 + 2 * reach q.kind t + due_up_to s f t;
        soon = soon_enough s f q t is w;
        given = given_as (happenings s (rounds (1 + 2 * reach q.kind t + due_up_to s f t) n m)) f (IsGrantOf t) (IsAwaited (s.row f)) (awaited s f q t is w)
            (least_is_granted s f n m q t is few short w first (wide_enough s (reach q.kind t) none));
      }

  somebody : (f : ℕ) → s.directory.joined f ≡ true → is_advancing (s.row f) ≡ true → EachRegulatorAdvances s → NoTwoHold s → SomebodyIsGranted s n m
  somebody f j a all none = ⊎_elim
      free_granted
      (λ (bound : AllBound s targets s.directory.next_federate). ⊎_elim
      (λ (nobody : NobodyIn s targets s.directory.next_federate). absurd (nobody f ((led_inv s is).kept.directory.members f j) (j, a)))
      (λ (l : Least s targets s.directory.next_federate). least_granted all none l)
      (least_of_all s targets s.directory.next_federate bound))
      (some_free s targets s.directory.next_federate)

pub nobody_locks_up : NobodyLocksUp
nobody_locks_up s f n m is few short j a all none = somebody s n m is few short f j a all none

pub nobody_locks_up_with_widths : NobodyLocksUpWithWidths
nobody_locks_up_with_widths s f n m is few short j a all wide = somebody s n m is few short f j a all
    (λ g h ne x y. let joined = (led_inv s is).kept.time.regulators g x.regulates in let l = wide g x.request joined x.regulates (next_asked (s.row g) x.request x.waits) in let z = x.narrow in omega arith)

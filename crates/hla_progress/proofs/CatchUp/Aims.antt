-- What a tick of a federate that waits picks up: what is due and its grant alone, and something once its goal is reached
use Rattle.std.proofs.Common.{◌≡◌, ◌⊎◌, ℕ, ◌≤◌, min, cond, eqb, ◌&&◌, true, false, refl, sym, ◌∙◌, ap, le_trans, subst, inl, inr, ⊎_elim, arith, eqb-true, List, Option, Some, None}
use Rattle.std.proofs.lemmas.Bool.{cases_Bool}
use Rattle.hla_base.specs.declared.content.Event.{Event}
use Rattle.hla_base.specs.declared.row.AdvanceRequest.{AdvanceRequest}
use Rattle.hla_base.specs.Tables.{forever}
use Rattle.hla_base.specs.Rows.{is_next, is_constrained, is_enabled, first_or, reach}
use Rattle.hla_base.proofs.Tables.{least_le-forever}
use Rattle.hla_callbacks.specs.declared.callback.Callback.{Callback}
use Rattle.hla_callbacks.specs.declared.callback.Callback.TheVariants as callback
use Rattle.hla_component_rules.specs.Queues.{first_stamp}
use Rattle.hla_component_rules.specs.Picking.{Pick, NoPick, PickControl, PickRo, PickRegulates, PickConstrains, PickTso, PickGrant, is_first_fit}
use Rattle.hla_machine.specs.declared.step.Step.{Step}
use Rattle.hla_machine.specs.Central.{BelowAllTso, BelowWake}
use Rattle.hla_machine.proofs.Basics.Rows.{le_reach}
use Rattle.hla_components.specs.Components.{Components}
use Rattle.hla_components.specs.Component.{local_bound}
use Rattle.hla_components.specs.CentralOf.{central}
use Rattle.hla_components.specs.Invariant.{Inv}
use Rattle.hla_components.specs.Next.{next}
use Rattle.hla_components.specs.Headline.{IsLedTo}
use Rattle.hla_components.proofs.Wiring.Queues.{first_rest}
use Rattle.hla_components.proofs.Upkeep.Bounds.{below_all}
use Rattle.hla_components.proofs.Refinement.Picks.{PickFacts, TsoFacts, GrantFacts, pick_tells}
use Rattle.hla_components.proofs.Refinement.LedTo.{led_inv}
use Rattle.hla_progress.specs.Rounds.{IsOfRounds}
use Rattle.hla_progress.specs.AtOnce.{is_tso_due}
use Rattle.hla_progress.specs.CatchingUp.{IsTarget, IsWaitingFor}
use Rattle.hla_progress.proofs.Keeping.Firsts.{led_firsts}
use Rattle.hla_progress.proofs.Keeping.Live.{first_above}
use Rattle.hla_progress.proofs.Moving.Led.{next_target}
use Rattle.hla_progress.proofs.Waiting.Picks.{IsDuePick, Aim, le_leb, pick_reached}
use Rattle.hla_progress.proofs.Waiting.Steps.{WaitsOn, bound_rises, picked_at}
use Rattle.hla_progress.proofs.Waiting.Lists.{asked_cap}
use Rattle.hla_progress.proofs.CatchUp.Nulls.{NullsAlone, next_nulls}
use Rattle.hla_progress.proofs.CatchUp.Arrived.{all_waits}

abbrev pub IsGrantOf : ℕ → Callback → Type 0
IsGrantOf t k = k ≡ callback.TimeAdvanceGrant t

-- it waits on for the same
pub waiting_next : (s : Components) (step : Step) (f limit x : ℕ) (q : AdvanceRequest) (t : ℕ) → IsLedTo s → IsOfRounds step → WaitsOn s (next s step).state f limit x → IsWaitingFor s f q t → IsWaitingFor (next s step).state f q t
waiting_next s step f limit x q t is of on w = record {
  joined = on.joined ∙ w.joined;
  constrained = ap is_enabled on.constrained ∙ w.constrained;
  asks = on.advance ∙ w.asks;
  unflushed = w.unflushed;
  target = ⊎_elim
      (λ (y : IsTarget (central (next s step).state) f q t). y)
      (λ (n : ((next s step).state.row f).advance ≡ None). absurd (let e : None ≡ Some q = sym n ∙ (on.advance ∙ w.asks) in cc))
      (next_target s step is of f q t w.asks w.constrained w.unflushed w.target);
}

module _ (s : Components) (f : ℕ) (q : AdvanceRequest) (t : ℕ) (is : IsLedTo s) (w : IsWaitingFor s f q t) where
  inv : Inv s
  inv = led_inv s is

  same_request : (k : AdvanceRequest) → (s.row f).advance ≡ Some k → k ≡ q
  same_request k asks = let both : Some k ≡ Some q = sym asks ∙ w.asks in cc

  -- ---- what is picked up is due
  wake_at : is_next q.kind ≡ true → (o : Option ℕ) → (s.row f).first_pick ≡ o → (x : ℕ) → BelowWake (BelowAllTso (central s) f) q o x → x ≤ t
  wake_at y o first x b = (w.target.1 y).1 x (rw first b)

  first_low : is_next q.kind ≡ true → (o : Option ℕ) → (s.row f).first_pick ≡ o → (x : ℕ) → x ≤ q.asked → reach q.kind x ≤ local_bound s f → x ≤ first_stamp (s.tso f) → is_first_fit q.kind o x ≡ true → x ≤ t
  first_low y None first x a b c fit = wake_at y None first x (a, below_all s f x inv.kept c (le_trans (le_reach q.kind x) b))
  first_low y (Some p) first x a b c fit = let e : eqb x p ≡ true = rw y at fit in wake_at y (Some p) first x (omega (arith, eqb-true x p e))

  picked_low : (x : ℕ) → x ≤ q.asked → reach q.kind x ≤ local_bound s f → x ≤ first_stamp (s.tso f) → is_first_fit q.kind (s.row f).first_pick x ≡ true → x ≤ t
  picked_low x a b c fit = ⊎_elim
      (λ (y : is_next q.kind ≡ true). first_low y (s.row f).first_pick refl x a b c fit)
      (λ (n : is_next q.kind ≡ false). omega (arith, w.target.0 n))
      (cases_Bool (is_next q.kind))

  taken_due : (e : Event) (rest : List Event) → TsoFacts (s.row f) (s.tso f) (local_bound s f) q e rest → is_tso_due (s.row f) t e ≡ true
  taken_due e rest facts =
      let u = w.unflushed in let con = w.constrained in let asks = w.asks in
      let fits = facts.fits u in
      let front : e.stamp ≤ first_stamp (s.tso f) = rw facts.front (omega arith) in
      let low : e.stamp ≤ t = picked_low e.stamp fits.0 fits.1 front fits.2 in
      rw (con, asks, u) (le_leb e.stamp t low)

  -- ---- and what is granted is the target
  next_grant : is_next q.kind ≡ true → (o : Option ℕ) → (s.row f).first_pick ≡ o → (x : ℕ) → x ≡ first_or o q.asked → reach q.kind x ≤ local_bound s f → reach q.kind x ≤ first_stamp (s.tso f) → x ≡ t
  next_grant y None first x e b c =
      let low : t ≤ q.asked = (let at : BelowWake (BelowAllTso (central s) f) q None t = rw first at ((w.target.1 y).0) in at.0) in
      let high = wake_at y None first x (omega (arith, e), below_all s f x inv.kept (le_trans (le_reach q.kind x) c) (le_trans (le_reach q.kind x) b)) in omega (arith, e)
  next_grant y (Some p) first x e b c =
      let low : t ≤ p = (let at : BelowWake (BelowAllTso (central s) f) q (Some p) t = rw first at ((w.target.1 y).0) in at) in
      let high = wake_at y (Some p) first x (omega (arith, e)) in omega (arith, e)

  pub granted_is : (x : ℕ) → GrantFacts (s.row f) (s.tso f) (local_bound s f) q x → x ≡ t
  granted_is x facts = let r = facts.reached w.constrained w.unflushed in ⊎_elim
      (λ (y : is_next q.kind ≡ true). let con = w.constrained in let at : x ≡ cond (is_next q.kind && is_constrained (s.row f)) (first_or (s.row f).first_pick q.asked) q.asked = r.0 in
      next_grant y (s.row f).first_pick refl x (rw (y, con) at at) r.1 r.2)
      (λ (n : is_next q.kind ≡ false). let at : x ≡ cond (is_next q.kind && is_constrained (s.row f)) (first_or (s.row f).first_pick q.asked) q.asked = r.0 in
      let plain : x ≡ q.asked = rw n at at in plain ∙ sym (w.target.0 n))
      (cases_Bool (is_next q.kind))

  due_facts : (p : Pick) → PickFacts (s.controls f) (s.row f) (s.ro f) (s.tso f) (local_bound s f) p → (p ≡ NoPick) ⊎ IsDuePick (s.row f) t (IsGrantOf t) p
  due_facts NoPick facts = inl refl
  due_facts (PickControl k rest) facts = inr tt
  due_facts (PickRo e rest) facts = inr tt
  due_facts PickRegulates facts = absurd (let none : (s.row f).advance ≡ None = (inv.kept.time.rows f).idle facts.1 in let e : None ≡ Some q = sym none ∙ w.asks in cc)
  due_facts PickConstrains facts = absurd (let none : (s.row f).advance ≡ None = (inv.kept.time.rows f).resting facts.1 in let e : None ≡ Some q = sym none ∙ w.asks in cc)
  due_facts (PickTso k e rest) facts = inr (taken_due e rest (subst (λ (k : AdvanceRequest). TsoFacts (s.row f) (s.tso f) (local_bound s f) k e rest) (same_request k facts.1.asks) facts.1))
  due_facts (PickGrant k x) facts = inr (ap callback.TimeAdvanceGrant (granted_is x (subst (λ (k : AdvanceRequest). GrantFacts (s.row f) (s.tso f) (local_bound s f) k x) (same_request k facts.1.asks) facts.1)))

  pub due_or_none : (picked_at s f ≡ NoPick) ⊎ IsDuePick (s.row f) t (IsGrantOf t) (picked_at s f)
  due_or_none = due_facts (picked_at s f) (pick_tells (s.controls f) (s.row f) (s.ro f) (s.tso f) (local_bound s f))

  -- ---- once all that lay on the wires has come
  module _ (nulls : NullsAlone s f) (within : reach q.kind t ≤ local_bound s f) where
    target_low : t ≤ local_bound s f
    target_low = le_trans (le_reach q.kind t) within

    asked_top : q.asked ≤ forever
    asked_top = asked_cap s f q inv w.asks

    none_aim : is_next q.kind ≡ true → (s.row f).first_pick ≡ None → (t ≤ q.asked) × (t ≤ first_stamp (s.tso f)) × (t ≡ min q.asked (first_stamp (s.tso f)))
    none_aim y first =
        let at : BelowWake (BelowAllTso (central s) f) q None t = rw first at ((w.target.1 y).0) in
        let low : t ≤ first_stamp (s.tso f) = (let l = first_above s f inv t at.1 in let b = target_low in omega arith) in
        let high = wake_at y None first (min q.asked (first_stamp (s.tso f))) (omega arith, all_waits s f is nulls (min q.asked (first_stamp (s.tso f))) (let c = asked_top in omega arith) (omega arith)) in
        (at.0, low, omega (arith, at.0))

    some_aim : is_next q.kind ≡ true → (p : ℕ) → (s.row f).first_pick ≡ Some p → (t ≤ q.asked) × (t ≤ first_stamp (s.tso f)) × (t ≡ p)
    some_aim y p first =
        let at : BelowWake (BelowAllTso (central s) f) q (Some p) t = rw first at ((w.target.1 y).0) in
        let high = wake_at y (Some p) first p (omega arith) in
        let asked = (inv.numbers f).first q p w.asks first in
        let past = first_rest p forever (s.tso f) ((led_firsts s is f q p w.constrained w.asks first).1) (omega arith) in
        let top = asked_top in
        (omega arith, omega arith, omega arith)

    next_aim : is_next q.kind ≡ true → (o : Option ℕ) → (s.row f).first_pick ≡ o → (t ≤ q.asked) × (t ≤ first_stamp (s.tso f)) × (t ≡ first_or o (min q.asked (first_stamp (s.tso f))))
    next_aim y None first = none_aim y first
    next_aim y (Some p) first = some_aim y p first

    aim : Aim (s.row f) q (s.tso f) t
    aim = record {
      plain = w.target.0;
      next = λ y. (next_aim y (s.row f).first_pick refl).2;
      asked = ⊎_elim (λ (y : is_next q.kind ≡ true). (next_aim y (s.row f).first_pick refl).0) (λ (n : is_next q.kind ≡ false). omega (arith, w.target.0 n)) (cases_Bool (is_next q.kind));
      waiting = λ y. (next_aim y (s.row f).first_pick refl).1;
      cap = asked_top;
    }

    pub reached_due : IsDuePick (s.row f) t (IsGrantOf t) (picked_at s f)
    reached_due = pick_reached (s.row f) (local_bound s f) t (IsGrantOf t) refl q w.asks w.constrained w.unflushed within (s.controls f) (s.ro f) (s.tso f) aim (least_le-forever s.directory.next_federate (s.bound f)) (inv.kept.time.rows f)

-- ---- a goal that is reached
pub record AtGoal (q : AdvanceRequest) (t f : ℕ) (s : Components) : Type 0 where
  pub waiting : IsWaitingFor s f q t
  pub within : reach q.kind t ≤ local_bound s f
  pub nulls : NullsAlone s f

pub at_goal_due : (q : AdvanceRequest) (t f : ℕ) (s : Components) → IsLedTo s → AtGoal q t f s → IsDuePick (s.row f) t (IsGrantOf t) (picked_at s f)
at_goal_due q t f s is a = reached_due s f q t is a.waiting a.nulls a.within

pub at_goal_lasts : (q : AdvanceRequest) (t f : ℕ) (s : Components) (step : Step) (x : ℕ) → IsLedTo s → IsOfRounds step → WaitsOn s (next s step).state f t x → AtGoal q t f s → AtGoal q t f (next s step).state
at_goal_lasts q t f s step x is of on a = record {
  waiting = waiting_next s step f t x q t is of on a.waiting;
  within = le_trans a.within (bound_rises s (next s step).state f t x on);
  nulls = next_nulls s f a.nulls step of;
}

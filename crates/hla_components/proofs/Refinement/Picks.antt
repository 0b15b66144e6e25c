-- What each pick tells
use Rattle.std.proofs.Common.{◌≡◌, ℕ, ◌≤◌, cond, leb, ◌&&◌, ◌||◌, true, false, refl, List, [], ◌∷◌, Option, Some, None}
use Rattle.std.proofs.lemmas.Bool.{cond_both, and_parts, leb-true}
use Rattle.hla_base.specs.declared.content.Event.{Event}
use Rattle.hla_base.specs.declared.row.TimeRow.{TimeRow}
use Rattle.hla_base.specs.declared.row.AdvanceRequest.{AdvanceRequest}
use Rattle.hla_base.specs.Rows.{is_pending, is_constrained, is_flush, grant_time, reach}
use Rattle.hla_component_rules.specs.declared.control.Control.{Control}
use Rattle.hla_component_rules.specs.Queues.{first_stamp}
use Rattle.hla_component_rules.specs.Picking.{Pick, NoPick, PickControl, PickRo, PickRegulates, PickConstrains, PickTso, PickGrant, is_reached, is_first_fit, flush_time, is_picked, grant_pick, tso_pick, advance_pick, role_pick, is_held_back, ro_pick, pick}

pub record TsoFacts (r : TimeRow) (tso : List Event) (bound : ℕ) (q : AdvanceRequest) (e : Event) (rest : List Event) : Type 0 where
  pub front : tso ≡ e ∷ rest
  pub asks : r.advance ≡ Some q
  pub constrained : is_constrained r ≡ true
  pub fits : is_flush q.kind ≡ false → (e.stamp ≤ q.asked) × (reach q.kind e.stamp ≤ bound) × (is_first_fit q.kind r.first_pick e.stamp ≡ true)

pub record GrantFacts (r : TimeRow) (tso : List Event) (bound : ℕ) (q : AdvanceRequest) (t : ℕ) : Type 0 where
  pub asks : r.advance ≡ Some q
  pub free : is_constrained r ≡ false → t ≡ q.asked
  pub flushed : is_constrained r ≡ true → is_flush q.kind ≡ true → (tso ≡ []) × (t ≡ flush_time r q bound)
  pub reached : is_constrained r ≡ true → is_flush q.kind ≡ false → (t ≡ grant_time r q) × (reach q.kind t ≤ bound) × (reach q.kind t ≤ first_stamp tso)

-- nothing is picked where the federate's role or its advance waits for others
pub record RestFacts (r : TimeRow) : Type 0 where
  pub roles : is_pending r.regulating ≡ false
  pub advance : (q : AdvanceRequest) → r.advance ≡ Some q → (is_constrained r ≡ true) × (is_flush q.kind ≡ false)

-- all but a control is picked where there is none
abbrev pub PickFacts : List Control → TimeRow → List Event → List Event → ℕ → Pick → Type 0
PickFacts ks r ro tso bound NoPick = (ks ≡ []) × RestFacts r
PickFacts ks r ro tso bound (PickControl k rest) = ks ≡ k ∷ rest
PickFacts ks r ro tso bound (PickRo e rest) = (ks ≡ []) × (ro ≡ e ∷ rest) × (is_held_back r ≡ false)
PickFacts ks r ro tso bound PickRegulates = (ks ≡ []) × (is_pending r.regulating ≡ true)
PickFacts ks r ro tso bound PickConstrains = (ks ≡ []) × (is_pending r.constrained ≡ true) × (is_pending r.regulating ≡ false) × (r.time ≤ bound)
PickFacts ks r ro tso bound (PickTso q e rest) = (ks ≡ []) × TsoFacts r tso bound q e rest
PickFacts ks r ro tso bound (PickGrant q t) = (ks ≡ []) × GrantFacts r tso bound q t

module _ (r : TimeRow) (ro : List Event) (bound : ℕ) where
  grant_tells : (q : AdvanceRequest) (tso : List Event) → r.advance ≡ Some q → is_constrained r ≡ true → is_pending r.regulating ≡ false → (is_flush q.kind ≡ true → tso ≡ []) → PickFacts [] r ro tso bound (grant_pick r q tso bound)
  grant_tells q tso asks con settled none = cond_both (is_flush q.kind) (PickGrant q (flush_time r q bound))
      (let t = grant_time r q in cond (is_reached q.kind t bound && is_reached q.kind t (first_stamp tso)) (PickGrant q t) NoPick) (PickFacts [] r ro tso bound)
      (λ y. (refl, record { asks = asks; free = λ n. absurd (cc); flushed = λ _ _. (none y, refl); reached = λ _ n. absurd (cc) }))
      (λ n. cond_both (is_reached q.kind (grant_time r q) bound && is_reached q.kind (grant_time r q) (first_stamp tso)) (PickGrant q (grant_time r q)) NoPick (PickFacts [] r ro tso bound)
      (λ y. let p = and_parts _ _ y in (refl, record { asks = asks; free = λ n. absurd (cc); flushed = λ _ y. absurd (cc); reached = λ _ _. (refl, leb-true _ _ p.0, leb-true _ _ p.1) }))
      (λ _. (refl, record { roles = settled; advance = λ p is. let same : p ≡ q = cc in (con, rw same n) })))

  picked_fits : (q : AdvanceRequest) (e : Event) → is_picked r q e.stamp bound ≡ true → is_flush q.kind ≡ false → (e.stamp ≤ q.asked) × (reach q.kind e.stamp ≤ bound) × (is_first_fit q.kind r.first_pick e.stamp ≡ true)
  picked_fits q e y n = let y2 : (leb e.stamp q.asked && is_reached q.kind e.stamp bound && is_first_fit q.kind r.first_pick e.stamp) ≡ true = rw n at y in
      let p = and_parts _ _ y2 in let o = and_parts _ _ p.0 in (leb-true _ _ o.0, leb-true _ _ o.1, p.1)

  tso_tells : (q : AdvanceRequest) (tso : List Event) → r.advance ≡ Some q → is_constrained r ≡ true → is_pending r.regulating ≡ false → PickFacts [] r ro tso bound (tso_pick r q tso bound)
  tso_tells q [] asks con settled = grant_tells q [] asks con settled (λ _. refl)
  tso_tells q (e ∷ es) asks con settled = cond_both (is_picked r q e.stamp bound) (PickTso q e es) (grant_pick r q (e ∷ es) bound) (PickFacts [] r ro (e ∷ es) bound)
      (λ y. (refl, record { front = refl; asks = asks; constrained = con; fits = picked_fits q e y }))
      (λ n. grant_tells q (e ∷ es) asks con settled (λ y. absurd (let n2 : (true || (leb e.stamp q.asked && is_reached q.kind e.stamp bound && is_first_fit q.kind r.first_pick e.stamp)) ≡ false = rw y at n in cc)))

  advance_tells : (o : Option AdvanceRequest) (tso : List Event) → r.advance ≡ o → is_pending r.regulating ≡ false → PickFacts [] r ro tso bound (advance_pick r o tso bound)
  advance_tells None tso asks settled = (refl, record { roles = settled; advance = λ q is. absurd (cc) })
  advance_tells (Some q) tso asks settled = cond_both (is_constrained r) (tso_pick r q tso bound) (PickGrant q q.asked) (PickFacts [] r ro tso bound)
      (λ y. tso_tells q tso asks y settled)
      (λ n. (refl, record { asks = asks; free = λ _. refl; flushed = λ y. absurd (cc); reached = λ y. absurd (cc) }))

  role_tells : (tso : List Event) → PickFacts [] r ro tso bound (role_pick r tso bound)
  role_tells tso = cond_both (is_pending r.regulating) PickRegulates (cond (is_pending r.constrained && leb r.time bound) PickConstrains (advance_pick r r.advance tso bound)) (PickFacts [] r ro tso bound)
      (λ y. (refl, y))
      (λ n. cond_both (is_pending r.constrained && leb r.time bound) PickConstrains (advance_pick r r.advance tso bound) (PickFacts [] r ro tso bound)
      (λ y. let p = and_parts _ _ y in (refl, p.0, n, leb-true _ _ p.1))
      (λ _. advance_tells r.advance tso refl n))

ro_tells : (r : TimeRow) (ro tso : List Event) (bound : ℕ) → PickFacts [] r ro tso bound (ro_pick r ro tso bound)
ro_tells r [] tso bound = role_tells r [] bound tso
ro_tells r (e ∷ es) tso bound = cond_both (is_held_back r) (role_pick r tso bound) (PickRo e es) (PickFacts [] r (e ∷ es) tso bound)
    (λ _. role_tells r (e ∷ es) bound tso)
    (λ n. (refl, refl, n))

pub pick_tells : (ks : List Control) (r : TimeRow) (ro tso : List Event) (bound : ℕ) → PickFacts ks r ro tso bound (pick ks r ro tso bound)
pick_tells [] r ro tso bound = ro_tells r ro tso bound
pick_tells (k ∷ ks) r ro tso bound = refl

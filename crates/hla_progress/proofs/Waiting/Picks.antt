-- What a tick picks up for who waits for nobody else
use Rattle.std.proofs.Common.{◌≡◌, ℕ, ◌≤◌, min, cond, leb, not, ◌&&◌, true, false, refl, subst, ◌⊎◌, ⊎_elim, arith, eqb, eqb-true, List, [], ◌∷◌, Option, Some, None, Bool, ◌||◌, ◌<◌, ◌+◌, le_trans, sym, ◌∙◌}
use Rattle.std.proofs.lemmas.Bool.{cond_both, and_parts, and_from, cases_lt, cases_Bool, leb-true}
use Rattle.std.proofs.lemmas.Bool.Decides.{nat_tests}
use Rattle.hla_base.specs.declared.content.Event.{Event}
use Rattle.hla_base.specs.declared.row.AdvanceRequest.{AdvanceRequest}
use Rattle.hla_base.specs.declared.row.TimeRow.{TimeRow}
use Rattle.hla_base.specs.Rows.{is_strict, is_pending, is_constrained, is_advancing, is_none_of, is_next, is_flush, grant_time, least_of, first_or, reach}
use Rattle.hla_base.specs.Tables.{forever}
use Rattle.hla_base.specs.declared.row.AdvanceKind.{AdvanceKind}
use Rattle.hla_callbacks.specs.declared.callback.Callback.{Callback}
use Rattle.hla_callbacks.specs.declared.callback.Callback.TheVariants as callback
use Rattle.hla_component_rules.specs.declared.control.Control.{Control}
use Rattle.hla_component_rules.specs.Queues.{first_stamp}
use Rattle.hla_component_rules.specs.Picking.{Pick, NoPick, PickControl, PickRo, PickRegulates, PickConstrains, PickTso, PickGrant, is_reached, is_first_fit, flush_time, is_picked, grant_pick, tso_pick, advance_pick, role_pick, is_held_back, ro_pick, pick}
use Rattle.hla_components.specs.Invariant.{RowInv}
use Rattle.hla_progress.specs.AtOnce.{is_flush_asked, WaitsForNobody, IsAwaited, is_tso_due}

-- what is picked up: something that is due, up to the limit, or what is waited for
abbrev pub IsDuePick : TimeRow → ℕ → (Callback → Type 0) → Pick → Type 0
IsDuePick r limit P NoPick = ⊥
IsDuePick r limit P (PickControl k rest) = Unit {0}
IsDuePick r limit P (PickRo e rest) = Unit {0}
IsDuePick r limit P PickRegulates = P (callback.TimeRegulationEnabled r.regulation_time)
IsDuePick r limit P PickConstrains = P (callback.TimeConstrainedEnabled r.time)
IsDuePick r limit P (PickTso q e rest) = is_tso_due r limit e ≡ true
IsDuePick r limit P (PickGrant q t) = P (callback.TimeAdvanceGrant t)

least_of_le : (s : ℕ) (o : Option ℕ) → least_of s o ≤ s
least_of_le s None = omega arith
least_of_le s (Some t) = omega arith

not_both : (b : Bool) → ((b || true) && true) ≡ false → ⊥
not_both true n = absurd (cc)
not_both false n = absurd (cc)

module _ (r : TimeRow) (bound limit : ℕ) (P : Callback → Type 0) (to : (k : Callback) → IsAwaited r k → P k) where
  grant_due : (q : AdvanceRequest) (tso : List Event) → r.advance ≡ Some q → is_constrained r ≡ true → is_flush q.kind ≡ true → IsDuePick r limit P (grant_pick r q tso bound)
  grant_due q tso asks con flush = cond_both (is_flush q.kind) (PickGrant q (flush_time r q bound))
      (let t = grant_time r q in cond (is_reached q.kind t bound && is_reached q.kind t (first_stamp tso)) (PickGrant q t) NoPick) (IsDuePick r limit P)
      (λ _. to (callback.TimeAdvanceGrant (flush_time r q bound)) (q, asks, omega (arith, least_of_le (min q.asked bound) r.flushed), λ n. absurd (let late : ((is_next q.kind || true) && true) ≡ false = rw (flush, con) at n in not_both (is_next q.kind) late)))
      (λ n. absurd (cc))

  tso_due : (q : AdvanceRequest) (tso : List Event) → r.advance ≡ Some q → is_constrained r ≡ true → is_flush q.kind ≡ true → IsDuePick r limit P (tso_pick r q tso bound)
  tso_due q [] asks con flush = grant_due q [] asks con flush
  tso_due q (e ∷ es) asks con flush = cond_both (is_picked r q e.stamp bound) (PickTso q e es) (grant_pick r q (e ∷ es) bound) (IsDuePick r limit P)
      (λ _. rw (con, asks, flush) refl)
      (λ _. grant_due q (e ∷ es) asks con flush)

  flush_of : (q : AdvanceRequest) → r.advance ≡ Some q → is_flush_asked r.advance ≡ true → is_flush q.kind ≡ true
  flush_of q asks flush = subst (λ (o : Option AdvanceRequest). is_flush_asked o ≡ true) asks flush

  advance_due : (o : Option AdvanceRequest) (tso : List Event) → r.advance ≡ o → not (is_none_of o) ≡ true → (is_constrained r ≡ false) ⊎ (is_flush_asked r.advance ≡ true) → IsDuePick r limit P (advance_pick r o tso bound)
  advance_due None tso asks some free = absurd (cc)
  advance_due (Some q) tso asks some free = cond_both (is_constrained r) (tso_pick r q tso bound) (PickGrant q q.asked) (IsDuePick r limit P)
      (λ y. ⊎_elim (λ (n : is_constrained r ≡ false). absurd (cc)) (λ (flush : is_flush_asked r.advance ≡ true). tso_due q tso asks y (flush_of q asks flush)) free)
      (λ n. to (callback.TimeAdvanceGrant q.asked) (q, asks, omega arith, λ _. refl))

  still : RowInv r → is_pending r.constrained ≡ true → is_advancing r ≡ true → ⊥
  still inv pending going = let none : r.advance ≡ None = inv.resting pending in let no : not (is_none_of {X = AdvanceRequest} None) ≡ true = subst (λ (o : Option AdvanceRequest). not (is_none_of o) ≡ true) none going in absurd (cc)

  role_due : (tso : List Event) → RowInv r → WaitsForNobody r → IsDuePick r limit P (role_pick r tso bound)
  role_due tso inv waits = cond_both (is_pending r.regulating) PickRegulates (cond (is_pending r.constrained && leb r.time bound) PickConstrains (advance_pick r r.advance tso bound)) (IsDuePick r limit P)
      (λ y. to (callback.TimeRegulationEnabled r.regulation_time) (y, refl))
      (λ n. ⊎_elim
      (λ (y : is_pending r.regulating ≡ true). absurd (cc))
      (λ (a : (is_advancing r ≡ true) × ((is_constrained r ≡ false) ⊎ (is_flush_asked r.advance ≡ true))).
      cond_both (is_pending r.constrained && leb r.time bound) PickConstrains (advance_pick r r.advance tso bound) (IsDuePick r limit P)
      (λ y. absurd (still inv (and_parts _ _ y).0 a.0))
      (λ _. advance_due r.advance tso refl a.0 a.1))
      waits)

  ro_due : (ro tso : List Event) → RowInv r → WaitsForNobody r → IsDuePick r limit P (ro_pick r ro tso bound)
  ro_due [] tso inv waits = role_due tso inv waits
  ro_due (e ∷ es) tso inv waits = cond_both (is_held_back r) (role_pick r tso bound) (PickRo e es) (IsDuePick r limit P) (λ _. role_due tso inv waits) (λ _. tt)

  pub pick_due : (ks : List Control) (ro tso : List Event) → RowInv r → WaitsForNobody r → IsDuePick r limit P (pick ks r ro tso bound)
  pick_due [] ro tso inv waits = ro_due ro tso inv waits
  pick_due (k ∷ ks) ro tso inv waits = tt

-- ---- a constrained federate that does not flush, whose goal is reached
reach-mono : (k : AdvanceKind) (t u : ℕ) → t ≤ u → reach k t ≤ reach k u
reach-mono k t u l = cond_both (is_strict k) (t + 1) t (λ x. x ≤ reach k u)
    (λ y. cond_both (is_strict k) (u + 1) u (λ z. t + 1 ≤ z) (λ _. omega arith) (λ n. absurd (cc)))
    (λ n. cond_both (is_strict k) (u + 1) u (λ z. t ≤ z) (λ _. omega arith) (λ _. omega arith))

-- what is later than t is at or above the reach of t
reach_le : (k : AdvanceKind) (t u : ℕ) → t < u → reach k t ≤ u
reach_le k t u l = cond_both (is_strict k) (t + 1) t (λ x. x ≤ u) (λ _. omega arith) (λ _. omega arith)

pub le_leb : (x y : ℕ) → x ≤ y → leb x y ≡ true
le_leb x y l = grind (arith, nat_tests)

not_le_leb : (x y : ℕ) → leb x y ≡ false → y < x
not_le_leb x y n = grind (arith, nat_tests)

-- what a tick grants once the goal is reached, told by the row and the queue
pub record Aim (r : TimeRow) (q : AdvanceRequest) (tso : List Event) (t : ℕ) : Type 0 where
  pub plain : is_next q.kind ≡ false → t ≡ q.asked
  pub next : is_next q.kind ≡ true → t ≡ first_or r.first_pick (min q.asked (first_stamp tso))
  pub asked : t ≤ q.asked
  pub waiting : is_next q.kind ≡ true → t ≤ first_stamp tso
  pub cap : q.asked ≤ forever

module _ (r : TimeRow) (bound t : ℕ) (P : Callback → Type 0) (grant : P (callback.TimeAdvanceGrant t)) (q : AdvanceRequest) (asks : r.advance ≡ Some q) (con : is_constrained r ≡ true) (fl : is_flush q.kind ≡ false) (within : reach q.kind t ≤ bound) where
  -- where the tick grants at all, it grants at t
  time_is : (tso : List Event) → Aim r q tso t → (is_next q.kind ≡ true → r.first_pick ≡ None → q.asked ≤ first_stamp tso) → grant_time r q ≡ t
  time_is tso aim late = ⊎_elim
      (λ (y : is_next q.kind ≡ true). rw (y, con) (by_first r.first_pick (aim.next y) (late y)))
      (λ (n : is_next q.kind ≡ false). rw n (sym (aim.plain n)))
      (cases_Bool (is_next q.kind))
    where
      by_first : (o : Option ℕ) → t ≡ first_or o (min q.asked (first_stamp tso)) → (o ≡ None → q.asked ≤ first_stamp tso) → first_or o q.asked ≡ t
      by_first None e l = omega (arith, e, l refl)
      by_first (Some p) e l = sym e

  reached_due : (tso : List Event) → grant_time r q ≡ t → reach q.kind t ≤ first_stamp tso → IsDuePick r t P (grant_pick r q tso bound)
  reached_due tso is low = cond_both (is_flush q.kind) (PickGrant q (flush_time r q bound))
      (let t = grant_time r q in cond (is_reached q.kind t bound && is_reached q.kind t (first_stamp tso)) (PickGrant q t) NoPick) (IsDuePick r t P)
      (λ y. absurd (cc))
      (λ _. cond_both (is_reached q.kind (grant_time r q) bound && is_reached q.kind (grant_time r q) (first_stamp tso)) (PickGrant q (grant_time r q)) NoPick (IsDuePick r t P)
      (λ _. rw is grant)
      (λ n. absurd (let y = and_from (is_reached q.kind (grant_time r q) bound) (is_reached q.kind (grant_time r q) (first_stamp tso)) (at_time bound within) (at_time (first_stamp tso) low) in cc)))
    where
      at_time : (b : ℕ) → reach q.kind t ≤ b → is_reached q.kind (grant_time r q) b ≡ true
      at_time b l = rw is (le_leb (reach q.kind t) b l)

  -- an event at the time t, or before it for who takes more than one, is picked up
  fits : (e : Event) → e.stamp ≤ t → t ≤ q.asked → is_first_fit q.kind r.first_pick e.stamp ≡ true → (leb e.stamp q.asked && is_reached q.kind e.stamp bound && is_first_fit q.kind r.first_pick e.stamp) ≡ true
  fits e l a first = and_from (leb e.stamp q.asked && is_reached q.kind e.stamp bound) (is_first_fit q.kind r.first_pick e.stamp)
      (and_from (leb e.stamp q.asked) (is_reached q.kind e.stamp bound) (le_leb e.stamp q.asked (le_trans l a)) (le_leb (reach q.kind e.stamp) bound (le_trans (reach-mono q.kind e.stamp t l) within))) first

  plain_fit : is_next q.kind ≡ false → (o : Option ℕ) (x : ℕ) → is_first_fit q.kind o x ≡ true
  plain_fit nx None x = refl
  plain_fit nx (Some p) x = rw nx refl

  next_fit : (o : Option ℕ) (x y : ℕ) → t ≡ first_or o (min y x) → x ≡ t → is_first_fit q.kind o x ≡ true
  next_fit None x y e same = refl
  next_fit (Some p) x y e same = grind (arith, nat_tests)

  first_fit : (e : Event) (es : List Event) → Aim r q (e ∷ es) t → e.stamp ≤ t → is_first_fit q.kind r.first_pick e.stamp ≡ true
  first_fit e es aim l = ⊎_elim
      (λ (y : is_next q.kind ≡ true). next_fit r.first_pick e.stamp q.asked (aim.next y) (let w = aim.waiting y in omega arith))
      (λ (n : is_next q.kind ≡ false). plain_fit n r.first_pick e.stamp)
      (cases_Bool (is_next q.kind))

  -- what is picked up is at most t
  picked_next : (o : Option ℕ) (x : ℕ) → is_next q.kind ≡ true → t ≡ first_or o (min q.asked x) → x ≤ q.asked → is_first_fit q.kind o x ≡ true → x ≤ t
  picked_next None x y e l fit = omega arith
  picked_next (Some p) x y e l fit = let f : eqb x p ≡ true = rw y at fit in omega (arith, eqb-true x p f)

  picked_low : (e : Event) (es : List Event) → Aim r q (e ∷ es) t → e.stamp ≤ q.asked → is_first_fit q.kind r.first_pick e.stamp ≡ true → e.stamp ≤ t
  picked_low e es aim l fit = ⊎_elim
      (λ (y : is_next q.kind ≡ true). picked_next r.first_pick e.stamp y (aim.next y) l fit)
      (λ (n : is_next q.kind ≡ false). omega (arith, aim.plain n))
      (cases_Bool (is_next q.kind))

  picked_due : (e : Event) (es : List Event) → Aim r q (e ∷ es) t → is_picked r q e.stamp bound ≡ true → is_tso_due r t e ≡ true
  picked_due e es aim y =
      let y2 : (leb e.stamp q.asked && is_reached q.kind e.stamp bound && is_first_fit q.kind r.first_pick e.stamp) ≡ true = rw fl at y in
      let p = and_parts (leb e.stamp q.asked && is_reached q.kind e.stamp bound) (is_first_fit q.kind r.first_pick e.stamp) y2 in
      let l : e.stamp ≤ q.asked = leb-true e.stamp q.asked (and_parts (leb e.stamp q.asked) (is_reached q.kind e.stamp bound) p.0).0 in
      rw (con, asks, fl) (le_leb e.stamp t (picked_low e es aim l p.1))

  -- one that is not picked up is later than t
  unpicked_high : (e : Event) (es : List Event) → Aim r q (e ∷ es) t → is_picked r q e.stamp bound ≡ false → t < e.stamp
  unpicked_high e es aim n = ⊎_elim
      (λ (l : t < e.stamp). l)
      (λ (l : e.stamp ≤ t). absurd (let n2 : (leb e.stamp q.asked && is_reached q.kind e.stamp bound && is_first_fit q.kind r.first_pick e.stamp) ≡ false = rw fl at n in let y = fits e l aim.asked (first_fit e es aim l) in cc))
      (cases_lt t e.stamp)

  late_asked : (e : Event) (es : List Event) → Aim r q (e ∷ es) t → t < e.stamp → is_next q.kind ≡ true → r.first_pick ≡ None → q.asked ≤ e.stamp
  late_asked e es aim l y none = let at : t ≡ first_or None (min q.asked e.stamp) = rw none at (aim.next y) in omega arith

  first_due : (tso : List Event) → Aim r q tso t → bound ≤ forever → IsDuePick r t P (tso_pick r q tso bound)
  first_due [] aim cap = reached_due [] (time_is [] aim (λ _ _. aim.cap)) (le_trans within cap)
  first_due (e ∷ es) aim cap = cond_both (is_picked r q e.stamp bound) (PickTso q e es) (grant_pick r q (e ∷ es) bound) (IsDuePick r t P)
      (λ y. picked_due e es aim y)
      (λ n. let high = unpicked_high e es aim n in reached_due (e ∷ es) (time_is (e ∷ es) aim (late_asked e es aim high)) (reach_le q.kind t e.stamp high))

  reached_role : (tso : List Event) → Aim r q tso t → bound ≤ forever → RowInv r → IsDuePick r t P (role_pick r tso bound)
  reached_role tso aim cap inv = cond_both (is_pending r.regulating) PickRegulates (cond (is_pending r.constrained && leb r.time bound) PickConstrains (advance_pick r r.advance tso bound)) (IsDuePick r t P)
      (λ y. absurd (let none : r.advance ≡ None = inv.idle y in let no : Some q ≡ None = sym asks ∙ none in cc))
      (λ n. cond_both (is_pending r.constrained && leb r.time bound) PickConstrains (advance_pick r r.advance tso bound) (IsDuePick r t P)
      (λ y. absurd (let none : r.advance ≡ None = inv.resting (and_parts _ _ y).0 in let no : Some q ≡ None = sym asks ∙ none in cc))
      (λ _. subst (λ (o : Option AdvanceRequest). IsDuePick r t P (advance_pick r o tso bound)) (sym asks)
      (cond_both (is_constrained r) (tso_pick r q tso bound) (PickGrant q q.asked) (IsDuePick r t P) (λ _. first_due tso aim cap) (λ n. absurd (cc)))))

  reached_ro : (ro tso : List Event) → Aim r q tso t → bound ≤ forever → RowInv r → IsDuePick r t P (ro_pick r ro tso bound)
  reached_ro [] tso aim cap inv = reached_role tso aim cap inv
  reached_ro (e ∷ es) tso aim cap inv = cond_both (is_held_back r) (role_pick r tso bound) (PickRo e es) (IsDuePick r t P) (λ _. reached_role tso aim cap inv) (λ _. tt)

  pub pick_reached : (ks : List Control) (ro tso : List Event) → Aim r q tso t → bound ≤ forever → RowInv r → IsDuePick r t P (pick ks r ro tso bound)
  pick_reached [] ro tso aim cap inv = reached_ro ro tso aim cap inv
  pick_reached (k ∷ ks) ro tso aim cap inv = tt

-- ---- a federate that is to be constrained, once its time is reached
abbrev pub IsSomePick : Pick → Type 0
IsSomePick p = p ≡ NoPick → ⊥

module _ (r : TimeRow) (bound : ℕ) (was : is_pending r.constrained ≡ true) (within : is_pending r.regulating ≡ false → r.time ≤ bound) where
  some_role : (tso : List Event) → IsSomePick (role_pick r tso bound)
  some_role tso = cond_both (is_pending r.regulating) PickRegulates (cond (is_pending r.constrained && leb r.time bound) PickConstrains (advance_pick r r.advance tso bound)) IsSomePick
      (λ _ none. cc)
      (λ n. rw (was, le_leb r.time bound (within n)) (λ none. cc))

  some_ro : (ro tso : List Event) → IsSomePick (ro_pick r ro tso bound)
  some_ro [] tso = some_role tso
  some_ro (e ∷ es) tso = cond_both (is_held_back r) (role_pick r tso bound) (PickRo e es) IsSomePick (λ _. some_role tso) (λ _ none. cc)

  pub some_pick : (ks : List Control) (ro tso : List Event) → IsSomePick (pick ks r ro tso bound)
  some_pick [] ro tso = some_ro ro tso
  some_pick (k ∷ ks) ro tso = λ none. cc

-- What the row of a federate keeps
use Rattle.std.proofs.Common.{◌≡◌, ◌⊎◌, ℕ, ◌+◌, ◌-◌, ◌≤◌, max, cond, ◌&&◌, ◌||◌, Bool, true, false, refl, sym, ◌∙◌, le_trans, subst, inl, inr, ⊎_elim, arith, Option, Some, None}
use Rattle.std.proofs.lemmas.Bool.{cond_both, cases_Bool}
use Rattle.hla_base.specs.declared.row.AdvanceKind.{AdvanceKind}
use Rattle.hla_base.specs.declared.row.AdvanceKind.TheVariants.{TimeAdvance, TimeAdvanceAvailable, NextEvent, NextEventAvailable, FlushQueue}
use Rattle.hla_base.specs.declared.row.AdvanceRequest.{AdvanceRequest}
use Rattle.hla_base.specs.declared.row.Role.TheVariants.{Disabled, Pending}
use Rattle.hla_base.specs.declared.row.TimeRow.{TimeRow}
use Rattle.hla_base.specs.Tables.{when, or_else}
use Rattle.hla_base.specs.Rows.{is_strict, is_next, is_flush, is_regulator, is_constrained, is_pending, next_request, keep_if, width, new_row, least_stamp, least_stamp_in, row_after_request, row_with_entry, row_after_regulation_enabled, row_after_constraint_enabled, row_after_pick, row_after_grant, bar_after, first_or, reach}
use Rattle.hla_machine.specs.Central.{BelowWake, BelowRequest, BelowOut}

-- up to where the picks of an advance may have raised the bar of a regulator
abbrev pub highest_bar : ℕ → ℕ → Option AdvanceRequest → Option ℕ → ℕ
highest_bar floor lookahead None first = floor
highest_bar floor lookahead (Some q) None = floor
highest_bar floor lookahead (Some q) (Some p) = cond (is_next q.kind) (max floor (p + width lookahead q.kind)) floor

pub record RowLaw (r : TimeRow) : Type 0 where
  pub idle : is_pending r.regulating ≡ true → r.advance ≡ None
  pub resting : is_pending r.constrained ≡ true → r.advance ≡ None
  pub firsts : (q : AdvanceRequest) (p : ℕ) → r.advance ≡ Some q → r.first_pick ≡ Some p → p ≤ q.asked
  pub barred : is_constrained r ≡ true → r.time ≤ r.bar
  pub steady : is_constrained r ≡ true → is_pending r.regulating ≡ true → r.regulation_time ≡ r.time
  pub floored : is_regulator r ≡ true → r.time ≤ r.floor
  pub entered : is_pending r.regulating ≡ true → r.regulation_time ≤ r.floor
  pub asked : (q : AdvanceRequest) → r.advance ≡ Some q → (is_next q.kind || is_flush q.kind) ≡ false → q.asked + width r.lookahead q.kind ≤ r.floor
  pub covers : is_constrained r ≡ true → is_regulator r ≡ true → r.bar ≤ highest_bar r.floor r.lookahead r.advance r.first_pick

-- ---- kinds
pub next_not_flush : (k : AdvanceKind) → is_next k ≡ true → is_flush k ≡ false
next_not_flush TimeAdvance e = refl
next_not_flush TimeAdvanceAvailable e = refl
next_not_flush NextEvent e = refl
next_not_flush NextEventAvailable e = refl
next_not_flush FlushQueue e = absurd (cc)

pub flush_not_strict : (k : AdvanceKind) → is_flush k ≡ true → is_strict k ≡ false
flush_not_strict TimeAdvance e = absurd (cc)
flush_not_strict TimeAdvanceAvailable e = refl
flush_not_strict NextEvent e = absurd (cc)
flush_not_strict NextEventAvailable e = refl
flush_not_strict FlushQueue e = refl

pub le_reach : (k : AdvanceKind) (t : ℕ) → t ≤ reach k t
le_reach k t = cond_both (is_strict k) (t + 1) t (λ x. t ≤ x) (λ _. omega arith) (λ _. omega arith)

-- the reach is within the width
pub reach_width : (k : AdvanceKind) (t lookahead : ℕ) → reach k t ≤ t + width lookahead k
reach_width k t lookahead = ⊎_elim (λ (y : is_strict k ≡ true). rw y (omega arith)) (λ (n : is_strict k ≡ false). rw n (omega arith)) (cases_Bool (is_strict k))

when_none : (b : Bool) → when {X = AdvanceRequest} b None ≡ None
when_none true = refl
when_none false = refl

pub next_none : (r : TimeRow) → r.advance ≡ None → next_request r ≡ None
next_none r e = rw e (when_none (is_constrained r))

-- ---- what a regulator may still send
-- an idle one may send from its floor on
pub idle_out : (below : ℕ → Type 0) (r : TimeRow) (v : ℕ) → r.advance ≡ None → BelowOut below r v → v ≤ r.floor
idle_out below r v idle (inl l) = l
idle_out below r v idle (inr h) = absurd (subst (λ o. BelowRequest below r o v) (next_none r idle) h)

wake_asked : (below : ℕ → Type 0) (q : AdvanceRequest) (first : Option ℕ) (x : ℕ) → ((p : ℕ) → first ≡ Some p → p ≤ q.asked) → BelowWake below q first x → x ≤ q.asked
wake_asked below q (Some p) x h w = omega (arith, h p refl)
wake_asked below q None x h w = w.0

least_out : (below : ℕ → Type 0) (r : TimeRow) (o : Option AdvanceRequest) (b : Bool) (v : ℕ) → ((q : AdvanceRequest) (p : ℕ) → o ≡ Some q → r.first_pick ≡ Some p → p ≤ q.asked)
    → (v ≤ r.floor) ⊎ BelowRequest below r (when b (keep_if (λ q. is_next q.kind) o)) v → v ≤ least_stamp_in r.floor r.lookahead o
least_out below r None b v h (inl l) = l
least_out below r (Some q) b v h (inl l) = omega arith
least_out below r None true v h (inr w) = absurd w
least_out below r None false v h (inr w) = absurd w
least_out below r (Some q) false v h (inr w) = absurd w
least_out below r (Some q) true v h (inr w) = ⊎_elim
    (λ (y : is_next q.kind ≡ true). let at : BelowRequest below r (Some q) v = rw y at w in omega (arith, at.1, wake_asked below q r.first_pick at.0 (λ p is. h q p refl is) at.2))
    (λ (n : is_next q.kind ≡ false). absurd (rw n at w))
    (cases_Bool (is_next q.kind))

-- it may send nothing below what is at most its out
pub out_least : (below : ℕ → Type 0) (r : TimeRow) (v : ℕ) → RowLaw r → BelowOut below r v → v ≤ least_stamp r
out_least below r v law h = least_out below r r.advance (is_constrained r) v law.firsts h

covered_le : (floor lookahead : ℕ) (o : Option AdvanceRequest) (first : Option ℕ) → ((q : AdvanceRequest) (p : ℕ) → o ≡ Some q → first ≡ Some p → p ≤ q.asked) → highest_bar floor lookahead o first ≤ least_stamp_in floor lookahead o
covered_le floor lookahead None first h = omega arith
covered_le floor lookahead (Some q) None h = omega arith
covered_le floor lookahead (Some q) (Some p) h = cond_both (is_next q.kind) (max floor (p + width lookahead q.kind)) floor (λ x. x ≤ max floor (q.asked + width lookahead q.kind)) (λ _. omega (arith, h q p refl refl)) (λ _. omega arith)

-- nor below its own bar
pub bar_least : (r : TimeRow) → RowLaw r → is_constrained r ≡ true → is_regulator r ≡ true → r.bar ≤ least_stamp r
bar_least r law c g = le_trans (law.covers c g) (covered_le r.floor r.lookahead r.advance r.first_pick law.firsts)

covered_floor : (floor lookahead : ℕ) (o : Option AdvanceRequest) (first : Option ℕ) → floor ≤ highest_bar floor lookahead o first
covered_floor floor lookahead None first = omega arith
covered_floor floor lookahead (Some q) None = omega arith
covered_floor floor lookahead (Some q) (Some p) = cond_both (is_next q.kind) (max floor (p + width lookahead q.kind)) floor (λ x. floor ≤ x) (λ _. omega arith) (λ _. omega arith)

idle_covered : (r : TimeRow) → RowLaw r → r.advance ≡ None → is_constrained r ≡ true → is_regulator r ≡ true → r.bar ≤ r.floor
idle_covered r law idle c g = subst (λ o. r.bar ≤ highest_bar r.floor r.lookahead o r.first_pick) idle (law.covers c g)

-- ---- the row after each change
pub law_new : RowLaw new_row
law_new = record {
  idle = λ _. refl;
  resting = λ _. refl;
  firsts = λ q p e. absurd (cc);
  barred = λ e. absurd (cc);
  steady = λ e. absurd (cc);
  floored = λ e. absurd (cc);
  entered = λ e. absurd (cc);
  asked = λ q e. absurd (cc);
  covers = λ e. absurd (cc);
}

asked_is : (k : AdvanceKind) (a : ℕ) (q : AdvanceRequest) → Some (record { kind = k; asked = a }) ≡ Some q → record { kind = k; asked = a } ≡ q
asked_is k a q e = cc

requested_floor : (r : TimeRow) (k : AdvanceKind) (a : ℕ) → r.floor ≤ (row_after_request r k a).floor
requested_floor r k a = cond_both ((is_next k || is_flush k) && is_constrained r) r.floor (max r.floor (a + width r.lookahead k)) (λ x. r.floor ≤ x) (λ _. omega arith) (λ _. omega arith)

requested_covers : (r : TimeRow) (k : AdvanceKind) (a : ℕ) → (is_next k || is_flush k) ≡ false → a + width r.lookahead k ≤ (row_after_request r k a).floor
requested_covers r k a n = rw n (omega arith)

pub law_requested : (r : TimeRow) (k : AdvanceKind) (a : ℕ) → RowLaw r → r.advance ≡ None → is_pending r.regulating ≡ false → is_pending r.constrained ≡ false → RowLaw (row_after_request r k a)
law_requested r k a law idle rest free = record {
  idle = λ e. absurd (cc);
  resting = λ e. absurd (cc);
  firsts = λ q p _ e. absurd (cc);
  barred = law.barred;
  steady = law.steady;
  floored = λ g. le_trans (law.floored g) (requested_floor r k a);
  entered = λ e. absurd (cc);
  asked = λ q e. subst (λ (q : AdvanceRequest). (is_next q.kind || is_flush q.kind) ≡ false → q.asked + width r.lookahead q.kind ≤ (row_after_request r k a).floor) (asked_is k a q e) (requested_covers r k a);
  covers = λ c g. le_trans (idle_covered r law idle c g) (requested_floor r k a);
}

pub law_constrained : (r : TimeRow) → RowLaw r → r.advance ≡ None → RowLaw (record r { constrained = Pending })
law_constrained r law idle = record {
  idle = λ _. idle;
  resting = λ _. idle;
  firsts = law.firsts;
  barred = λ e. absurd (cc);
  steady = λ e. absurd (cc);
  floored = law.floored;
  entered = law.entered;
  asked = law.asked;
  covers = λ e. absurd (cc);
}

pub law_free : (r : TimeRow) → RowLaw r → RowLaw (record r { constrained = Disabled })
law_free r law = record {
  idle = law.idle;
  resting = λ e. absurd (cc);
  firsts = law.firsts;
  barred = λ e. absurd (cc);
  steady = λ e. absurd (cc);
  floored = law.floored;
  entered = law.entered;
  asked = law.asked;
  covers = λ e. absurd (cc);
}

pub law_stopped : (r : TimeRow) → RowLaw r → RowLaw (record r { regulating = Disabled })
law_stopped r law = record {
  idle = λ e. absurd (cc);
  resting = law.resting;
  firsts = law.firsts;
  barred = law.barred;
  steady = λ _ e. absurd (cc);
  floored = λ e. absurd (cc);
  entered = λ e. absurd (cc);
  asked = law.asked;
  covers = λ _ e. absurd (cc);
}

pub law_asynchronous : (r : TimeRow) (b : Bool) → RowLaw r → RowLaw (record r { asynchronous = b })
law_asynchronous r b law = record {
  idle = law.idle;
  resting = law.resting;
  firsts = law.firsts;
  barred = law.barred;
  steady = law.steady;
  floored = law.floored;
  entered = law.entered;
  asked = law.asked;
  covers = law.covers;
}

pub law_lookahead : (r : TimeRow) (lookahead : ℕ) → RowLaw r → r.advance ≡ None → RowLaw (record r { lookahead = lookahead })
law_lookahead r lookahead law idle = record {
  idle = law.idle;
  resting = law.resting;
  firsts = law.firsts;
  barred = law.barred;
  steady = law.steady;
  floored = law.floored;
  entered = law.entered;
  asked = λ q e. absurd (cc);
  covers = λ c g. le_trans (idle_covered r law idle c g) (covered_floor r.floor lookahead r.advance r.first_pick);
}

-- enabling regulation from the entry e on
pub law_entered : (r : TimeRow) (lookahead e : ℕ) → RowLaw r → r.advance ≡ None → r.time ≤ e → (is_constrained r ≡ true → r.bar ≤ e) → RowLaw (row_with_entry r lookahead e)
law_entered r lookahead e law idle late above = record {
  idle = λ _. idle;
  resting = λ _. idle;
  firsts = law.firsts;
  barred = law.barred;
  steady = λ c _. cond_both (is_constrained r) r.time (e - lookahead) (λ x. x ≡ r.time) (λ _. refl) (λ n. absurd (cc));
  floored = λ _. late;
  entered = λ _. cond_both (is_constrained r) r.time (e - lookahead) (λ x. x ≤ e) (λ _. late) (λ _. omega arith);
  asked = λ q a. absurd (cc);
  covers = λ c _. le_trans (above c) (covered_floor e lookahead r.advance r.first_pick);
}

pub law_regulates : (r : TimeRow) → RowLaw r → is_pending r.regulating ≡ true → is_regulator r ≡ true → RowLaw (row_after_regulation_enabled r)
law_regulates r law was g = record {
  idle = λ e. absurd (cc);
  resting = law.resting;
  firsts = law.firsts;
  barred = λ c. omega (arith, law.steady c was, law.barred c);
  steady = λ _ e. absurd (cc);
  floored = λ _. law.entered was;
  entered = λ e. absurd (cc);
  asked = law.asked;
  covers = λ c _. law.covers c g;
}

pub law_constrains : (r : TimeRow) → RowLaw r → is_pending r.constrained ≡ true → is_pending r.regulating ≡ false → RowLaw (row_after_constraint_enabled r)
law_constrains r law was free = record {
  idle = law.idle;
  resting = λ e. absurd (cc);
  firsts = law.firsts;
  barred = λ _. omega arith;
  steady = λ _ e. absurd (cc);
  floored = law.floored;
  entered = law.entered;
  asked = law.asked;
  covers = λ _ g. le_trans (law.floored g) (covered_floor r.floor r.lookahead r.advance r.first_pick);
}

-- ---- picks and grants
picked_firsts : (k : AdvanceRequest) (first : Option ℕ) (s p : ℕ) → ((x : ℕ) → first ≡ Some x → x ≤ k.asked) → (is_flush k.kind ≡ false → s ≤ k.asked) → cond (is_flush k.kind) first (or_else first (Some s)) ≡ Some p → p ≤ k.asked
picked_firsts k first s p old new = cond_both (is_flush k.kind) first (or_else first (Some s)) (λ o. o ≡ Some p → p ≤ k.asked) (λ _ is. old p is) (λ n. second first old (new n))
  where
    second : (first : Option ℕ) → ((x : ℕ) → first ≡ Some x → x ≤ k.asked) → s ≤ k.asked → or_else first (Some s) ≡ Some p → p ≤ k.asked
    second None old l is = let same : s ≡ p = cc in omega arith
    second (Some x) old l is = old p is

picked_covers : (r : TimeRow) (q : AdvanceRequest) (s : ℕ) (first : Option ℕ) → r.bar ≤ highest_bar r.floor r.lookahead (Some q) first
    → (is_flush q.kind ≡ false → s ≤ q.asked) → (is_flush q.kind ≡ false → is_next q.kind ≡ true → (p : ℕ) → first ≡ Some p → s ≡ p)
    → ((is_next q.kind || is_flush q.kind) ≡ false → q.asked + width r.lookahead q.kind ≤ r.floor)
    → cond (is_flush q.kind) r.bar (bar_after r q.kind s) ≤ highest_bar r.floor r.lookahead (Some q) (cond (is_flush q.kind) first (or_else first (Some s)))
picked_covers r q s first low asked at ahead = ⊎_elim
    (λ (y : is_flush q.kind ≡ true). rw y low)
    (λ (n : is_flush q.kind ≡ false). rw n (⊎_elim (λ (y : is_next q.kind ≡ true). nexts y first low (at n y)) (λ (m : is_next q.kind ≡ false). others m first low (asked n) (ahead (rw (m, n) refl))) (cases_Bool (is_next q.kind))))
    (cases_Bool (is_flush q.kind))
  where
    nexts : is_next q.kind ≡ true → (first : Option ℕ) → r.bar ≤ highest_bar r.floor r.lookahead (Some q) first → ((p : ℕ) → first ≡ Some p → s ≡ p) → bar_after r q.kind s ≤ highest_bar r.floor r.lookahead (Some q) (or_else first (Some s))
    nexts y None low same = rw y (omega (arith, low, reach_width q.kind s r.lookahead))
    nexts y (Some p) low same = let low2 : r.bar ≤ max r.floor (p + width r.lookahead q.kind) = rw y at low in rw y (omega (arith, low2, same p refl, reach_width q.kind s r.lookahead))

    others : is_next q.kind ≡ false → (first : Option ℕ) → r.bar ≤ highest_bar r.floor r.lookahead (Some q) first → s ≤ q.asked → q.asked + width r.lookahead q.kind ≤ r.floor → bar_after r q.kind s ≤ highest_bar r.floor r.lookahead (Some q) (or_else first (Some s))
    others m None low l h = rw m (omega (arith, low, reach_width q.kind s r.lookahead))
    others m (Some p) low l h = let low2 : r.bar ≤ r.floor = rw m at low in rw m (omega (arith, low2, reach_width q.kind s r.lookahead))

same_request : (q k : AdvanceRequest) → Some q ≡ Some k → q ≡ k
same_request q k e = cc

pub law_picked : (r : TimeRow) (q : AdvanceRequest) (s : ℕ) → RowLaw r → r.advance ≡ Some q → (is_flush q.kind ≡ false → s ≤ q.asked) → (is_flush q.kind ≡ false → is_next q.kind ≡ true → (p : ℕ) → r.first_pick ≡ Some p → s ≡ p) → RowLaw (row_after_pick r q s)
law_picked r q s law asks within at = record {
  idle = law.idle;
  resting = law.resting;
  firsts = λ k p ask is. let same : q ≡ k = same_request q k (sym asks ∙ ask) in subst (λ (k : AdvanceRequest). p ≤ k.asked) same (picked_firsts q r.first_pick s p (λ x e. law.firsts q x asks e) within is);
  barred = λ c. cond_both (is_flush q.kind) r.bar (bar_after r q.kind s) (λ x. r.time ≤ x) (λ _. law.barred c) (λ _. omega (arith, law.barred c));
  steady = law.steady;
  floored = law.floored;
  entered = law.entered;
  asked = law.asked;
  covers = λ c g. subst (λ o. cond (is_flush q.kind) r.bar (bar_after r q.kind s) ≤ highest_bar r.floor r.lookahead o (cond (is_flush q.kind) r.first_pick (or_else r.first_pick (Some s)))) (sym asks)
      (picked_covers r q s r.first_pick (subst (λ o. r.bar ≤ highest_bar r.floor r.lookahead o r.first_pick) asks (law.covers c g)) within at (law.asked q asks));
}

covered_grant : (floor lookahead : ℕ) (q : AdvanceRequest) (first : Option ℕ) (t : ℕ) → (is_next q.kind ≡ true → (p : ℕ) → first ≡ Some p → p ≤ t) → highest_bar floor lookahead (Some q) first ≤ max floor (t + width lookahead q.kind)
covered_grant floor lookahead q None t h = omega arith
covered_grant floor lookahead q (Some p) t h = cond_both (is_next q.kind) (max floor (p + width lookahead q.kind)) floor (λ x. x ≤ max floor (t + width lookahead q.kind)) (λ y. omega (arith, h y p refl)) (λ _. omega arith)

pub law_granted : (r : TimeRow) (q : AdvanceRequest) (t : ℕ) → RowLaw r → r.advance ≡ Some q → (is_constrained r ≡ true → is_next q.kind ≡ true → (p : ℕ) → r.first_pick ≡ Some p → p ≤ t) → RowLaw (row_after_grant r q t)
law_granted r q t law asks first = record {
  idle = λ _. refl;
  resting = λ _. refl;
  firsts = λ k p e. absurd (cc);
  barred = λ c. cond_both (is_constrained r) (bar_after r q.kind t) r.bar (λ x. t ≤ x) (λ _. omega (arith, le_reach q.kind t)) (λ n. absurd (cc));
  steady = λ _ p. let e = law.idle p in absurd (cc);
  floored = λ _. omega arith;
  entered = λ p. let e = law.idle p in absurd (cc);
  asked = λ k e. absurd (cc);
  covers = λ c g. cond_both (is_constrained r) (bar_after r q.kind t) r.bar (λ x. x ≤ max r.floor (t + width r.lookahead q.kind))
      (λ _. omega (arith, low c g, reach_width q.kind t r.lookahead)) (λ n. absurd (cc));
}
  where
    low : is_constrained r ≡ true → is_regulator r ≡ true → r.bar ≤ max r.floor (t + width r.lookahead q.kind)
    low c g = le_trans (subst (λ o. r.bar ≤ highest_bar r.floor r.lookahead o r.first_pick) asks (law.covers c g)) (covered_grant r.floor r.lookahead q r.first_pick t (first c))

-- ---- what a federate may still send doesn't fall
-- where the row allows no less at rest
pub out_idle : (below to : ℕ → Type 0) (r s : TimeRow) (v : ℕ) → r.advance ≡ None → r.floor ≤ s.floor → BelowOut below r v → BelowOut to s v
out_idle below to r s v idle up h = inl (le_trans (idle_out below r v idle h) up)

-- where less lies before it
wake_low : (below to : ℕ → Type 0) (q : AdvanceRequest) (first : Option ℕ) (x : ℕ) → (below x → to x) → BelowWake below q first x → BelowWake to q first x
wake_low below to q (Some p) x low h = h
wake_low below to q None x low h = (h.0, low h.1)

-- less is below a wake too
wake_less : (below : ℕ → Type 0) (q : AdvanceRequest) (first : Option ℕ) (x y : ℕ) → ((x y : ℕ) → y ≤ x → below x → below y) → y ≤ x → BelowWake below q first x → BelowWake below q first y
wake_less below q (Some p) x y less le h = omega arith
wake_less below q None x y less le h = (omega (arith, h.0), less x y le h.1)

request_low : (below to : ℕ → Type 0) (r : TimeRow) (o : Option AdvanceRequest) (v : ℕ) → ((x y : ℕ) → y ≤ x → below x → below y) → ((x : ℕ) → x ≤ v → below x → to x) → BelowRequest below r o v → BelowRequest to r o v
request_low below to r None v less low h = h
request_low below to r (Some q) v less low h =
    let x = v - width r.lookahead q.kind in
    (x, omega arith, wake_low below to q r.first_pick x (low x (omega arith)) (wake_less below q r.first_pick h.0 x less (omega (arith, h.1)) h.2))

pub out_low : (below to : ℕ → Type 0) (r : TimeRow) (v : ℕ) → ((x y : ℕ) → y ≤ x → below x → below y) → ((x : ℕ) → x ≤ v → below x → to x) → BelowOut below r v → BelowOut to r v
out_low below to r v less low (inl l) = inl l
out_low below to r v less low (inr h) = inr (request_low below to r (next_request r) v less low h)

-- after a pick
pick_wake : (below to : ℕ → Type 0) (q k : AdvanceRequest) (first : Option ℕ) (s x : ℕ) → (below x → to x) → (is_flush k.kind ≡ false → below x → x ≤ s) → BelowWake below q first x → BelowWake to q (cond (is_flush k.kind) first (or_else first (Some s))) x
pick_wake below to q k first s x low high h = cond_both (is_flush k.kind) first (or_else first (Some s)) (λ o. BelowWake to q o x) (λ _. wake_low below to q first x low h) (λ n. second n first h)
  where
    second : is_flush k.kind ≡ false → (first : Option ℕ) → BelowWake below q first x → BelowWake to q (or_else first (Some s)) x
    second n None h = high n h.1
    second n (Some p) h = h

pick_request : (below to : ℕ → Type 0) (r : TimeRow) (q : AdvanceRequest) (o : Option AdvanceRequest) (s v : ℕ) → ((x : ℕ) → below x → to x) → (is_flush q.kind ≡ false → (x : ℕ) → below x → x ≤ s) → BelowRequest below r o v → BelowRequest to (row_after_pick r q s) o v
pick_request below to r q None s v low high h = h
pick_request below to r q (Some k) s v low high h = (h.0, h.1, pick_wake below to k q r.first_pick s h.0 (low h.0) (λ n. high n h.0) h.2)

pub out_picked : (below to : ℕ → Type 0) (r : TimeRow) (q : AdvanceRequest) (s v : ℕ) → ((x : ℕ) → below x → to x) → (is_flush q.kind ≡ false → (x : ℕ) → below x → x ≤ s) → BelowOut below r v → BelowOut to (row_after_pick r q s) v
out_picked below to r q s v low high (inl l) = inl l
out_picked below to r q s v low high (inr h) = inr (pick_request below to r q (next_request r) s v low high h)

-- after a grant
wake_first : (below : ℕ → Type 0) (q : AdvanceRequest) (first : Option ℕ) (x : ℕ) → BelowWake below q first x → x ≤ first_or first q.asked
wake_first below q (Some p) x h = h
wake_first below q None x h = h.0

grant_request : (below : ℕ → Type 0) (r : TimeRow) (q : AdvanceRequest) (b : Bool) (t v : ℕ) → (b ≡ true → is_next q.kind ≡ true → first_or r.first_pick q.asked ≤ t) → BelowRequest below r (when b (keep_if (λ q. is_next q.kind) (Some q))) v → v ≤ t + width r.lookahead q.kind
grant_request below r q false t v first h = absurd h
grant_request below r q true t v first h = ⊎_elim
    (λ (y : is_next q.kind ≡ true). let at : BelowRequest below r (Some q) v = rw y at h in omega (arith, at.1, wake_first below q r.first_pick at.0 at.2, first refl y))
    (λ (n : is_next q.kind ≡ false). absurd (rw n at h))
    (cases_Bool (is_next q.kind))

pub out_granted : (below to : ℕ → Type 0) (r : TimeRow) (q : AdvanceRequest) (t v : ℕ) → r.advance ≡ Some q → (is_constrained r ≡ true → is_next q.kind ≡ true → first_or r.first_pick q.asked ≤ t) → BelowOut below r v → BelowOut to (row_after_grant r q t) v
out_granted below to r q t v asks first (inl l) = inl (omega arith)
out_granted below to r q t v asks first (inr h) = inl (omega (arith, grant_request below r q (is_constrained r) t v first (rw asks at h)))

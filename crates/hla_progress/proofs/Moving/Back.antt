-- What steps of rounds leave as it was: who may still send below a time may do so after them, a flush aside
use Rattle.std.proofs.Common.{◌≡◌, ◌≢◌, ℕ, ◌+◌, ◌≤◌, ◌<◌, cond, ◌&&◌, ◌||◌, Bool, true, false, refl, sym, ◌∙◌, ap, subst, inl, inr, ⊎_elim, arith, Option, Some, None}
use Rattle.std.proofs.lemmas.Bool.{cases_eq, cases_lt, cases_Bool}
use Rattle.hla_base.specs.declared.row.AdvanceRequest.{AdvanceRequest}
use Rattle.hla_base.specs.declared.row.TimeRow.{TimeRow}
use Rattle.hla_base.specs.Tables.{upd, or_else}
use Rattle.hla_base.specs.Rows.{is_next, is_flush, is_constrained, next_request, width, reach, first_or, row_after_regulation_enabled, row_after_constraint_enabled, row_after_pick, row_after_grant}
use Rattle.hla_base.proofs.Tables.{upd_same, upd_other}
use Rattle.hla_machine.specs.Central.{Central, BelowWake, BelowOut, BelowRequest}
use Rattle.hla_machine.specs.Callbacks.{MayGrant}
use Rattle.hla_machine.proofs.Basics.GrantCases.{grant_free, grant_plain}
use Rattle.hla_machine.proofs.Basics.Rows.{le_reach, next_none}
use Rattle.hla_machine.proofs.Upkeep.Keeps.{Bag, IsCentralKept, LowIn, low_weaker}
use Rattle.hla_progress.specs.Promises.{is_raised_late, IsRaised}
use Rattle.hla_progress.proofs.Keeping.Changes.{next_asked}
use Rattle.hla_progress.proofs.Creep.Promising.{next_constrained}
use Rattle.hla_progress.proofs.Moving.Rounds.{Move, Regulates, Constrains, TakesEvent, TakesGrant, NoneGoes, MovesOne, NoRow, OneRow, RoundStep}
use Rattle.hla_progress.proofs.Moving.Targets.{wake_map}

-- it is in no flush while it is constrained
abbrev pub IsInNoLateFlush : TimeRow → Type 0
IsInNoLateFlush r = (p : AdvanceRequest) → r.advance ≡ Some p → is_flush p.kind ≡ true → is_constrained r ≡ false

request_map : (below to : ℕ → Type 0) (r : TimeRow) (o : Option AdvanceRequest) (v : ℕ) → ((x : ℕ) → below x → to x) → BelowRequest below r o v → BelowRequest to r o v
request_map below to r None v h b = b
request_map below to r (Some q) v h b = (b.0, b.1, wake_map below to q r.first_pick b.0 (h b.0) b.2)

no_request : (below : ℕ → Type 0) (r : TimeRow) (o : Option AdvanceRequest) (v : ℕ) → o ≡ None → BelowRequest below r o v → ⊥
no_request below r None v none b = b
no_request below r (Some q) v none b = absurd (cc)

module _ (c : Central) (kept : IsCentralKept c) (g v : ℕ) where
  -- where its copies do not go
  same_back : (to : Bag) → (is_constrained (c.row g) ≡ true → NoneGoes c to g) → BelowOut (LowIn to c.sent g) (c.row g) v → BelowOut (LowIn c.bag c.sent g) (c.row g) v
  same_back to goes (inl l) = inl l
  same_back to goes (inr b) = inr (by_request (next_request (c.row g)) refl b)
    where
      by_request : (o : Option AdvanceRequest) → next_request (c.row g) ≡ o → BelowRequest (LowIn to c.sent g) (c.row g) o v → BelowRequest (LowIn c.bag c.sent g) (c.row g) o v
      by_request None is b = b
      by_request (Some q) is b = request_map _ _ (c.row g) (Some q) v (λ x low h m k at live tso. low h m k (goes (next_constrained (c.row g) q is) h m k at live tso) live tso) b

  -- after a pick its wake is no later
  picked_wake : (to : Bag) (q : AdvanceRequest) (o : Option ℕ) (s x : ℕ) → s ≤ q.asked → LowIn c.bag c.sent g s → BelowWake (LowIn to c.sent g) q (or_else o (Some s)) x → BelowWake (LowIn c.bag c.sent g) q o x
  picked_wake to q (Some p) s x a low b = b
  picked_wake to q None s x a low b = (omega (arith, b), low_weaker c.bag c.sent g s x b low)

  picked_request : (to : Bag) (q : AdvanceRequest) (s : ℕ) (o : Option AdvanceRequest) → (c.row g).advance ≡ Some q → is_constrained (c.row g) ≡ true → IsInNoLateFlush (c.row g) → ((e : is_flush q.kind ≡ false) → (s ≤ q.asked) × LowIn c.bag c.sent g s)
      → next_request (c.row g) ≡ o → BelowRequest (LowIn to c.sent g) (row_after_pick (c.row g) q s) o v → BelowRequest (LowIn c.bag c.sent g) (c.row g) o v
  picked_request to q s None asks con calm may is b = b
  picked_request to q s (Some k) asks con calm may is b =
      let both : Some k ≡ Some q = sym (next_asked (c.row g) k is) ∙ asks in let same : k ≡ q = cc in
      let fl : is_flush q.kind ≡ false = ⊎_elim (λ (y : is_flush q.kind ≡ true). let n = calm q asks y in absurd (cc)) (λ (n : is_flush q.kind ≡ false). n) (cases_Bool (is_flush q.kind)) in
      let m = may fl in
      let wake : BelowWake (LowIn to c.sent g) k (or_else (c.row g).first_pick (Some s)) b.0 = rw fl at (b.2) in
      (b.0, b.1, picked_wake to k (c.row g).first_pick s b.0 (subst (λ (k : AdvanceRequest). s ≤ k.asked) (sym same) m.0) m.1 wake)

  -- a grant raises no floor above what it may send before
  granted_back : (q : AdvanceRequest) (t : ℕ) → (c.row g).advance ≡ Some q → MayGrant c g t q → IsRaised (c.row g) → IsInNoLateFlush (c.row g) → v ≤ t + width (c.row g).lookahead q.kind → BelowOut (LowIn c.bag c.sent g) (c.row g) v
  granted_back q t asks may raised calm l = ⊎_elim
      (λ (con : is_constrained (c.row g) ≡ true).
      let fl : is_flush q.kind ≡ false = ⊎_elim (λ (y : is_flush q.kind ≡ true). let n = calm q asks y in absurd (cc)) (λ (n : is_flush q.kind ≡ false). n) (cases_Bool (is_flush q.kind)) in
      let plain = grant_plain c g q t may con fl in
      let at : t ≡ cond (is_next q.kind && is_constrained (c.row g)) (first_or (c.row g).first_pick q.asked) q.asked = plain.0 in
      ⊎_elim
      (λ (y : is_next q.kind ≡ true).
      let waits : next_request (c.row g) ≡ Some q = rw (con, asks, y) refl in
      let time : t ≡ first_or (c.row g).first_pick q.asked = rw (y, con) at at in
      inr (rw waits (t, l, wake_of (c.row g).first_pick time (low_weaker c.bag c.sent g (reach q.kind t) t (le_reach q.kind t) plain.1.1))))
      (λ (n : is_next q.kind ≡ false).
      let time : t ≡ q.asked = rw n at at in
      let late : is_raised_late (c.row g) q ≡ false = rw (n, fl) refl in
      inl (omega (arith, raised q asks late, time, l)))
      (cases_Bool (is_next q.kind)))
      (λ (free : is_constrained (c.row g) ≡ false).
      let late : is_raised_late (c.row g) q ≡ false = unraised (is_next q.kind || is_flush q.kind) free in
      inl (omega (arith, raised q asks late, grant_free c g q t may free, l)))
      (cases_Bool (is_constrained (c.row g)))
    where
      wake_of : (o : Option ℕ) → t ≡ first_or o q.asked → LowIn c.bag c.sent g t → BelowWake (LowIn c.bag c.sent g) q o t
      wake_of None e low = (omega (arith, e), low)
      wake_of (Some p) e low = omega (arith, e)

      unraised : (b : Bool) → is_constrained (c.row g) ≡ false → (b && is_constrained (c.row g)) ≡ false
      unraised true free = free
      unraised false free = refl

  moved_back : (to : Bag) (r : TimeRow) → Move c g r → IsRaised (c.row g) → IsInNoLateFlush (c.row g) → BelowOut (LowIn to c.sent g) r v → BelowOut (LowIn c.bag c.sent g) (c.row g) v
  moved_back to r (Regulates was is) raised calm b = idle_back (row_after_regulation_enabled (c.row g)) ((kept.rows g).idle was) refl (subst (λ (r : TimeRow). BelowOut (LowIn to c.sent g) r v) is b)
    where
      idle_back : (r : TimeRow) → r.advance ≡ None → r.floor ≡ (c.row g).floor → BelowOut (LowIn to c.sent g) r v → BelowOut (LowIn c.bag c.sent g) (c.row g) v
      idle_back r none floor (inl l) = inl (omega (arith, floor))
      idle_back r none floor (inr b) = absurd (no_request (LowIn to c.sent g) r (next_request r) v (next_none r none) b)
  moved_back to r (Constrains was is) raised calm b = idle_back (row_after_constraint_enabled (c.row g)) ((kept.rows g).resting was) refl (subst (λ (r : TimeRow). BelowOut (LowIn to c.sent g) r v) is b)
    where
      idle_back : (r : TimeRow) → r.advance ≡ None → r.floor ≡ (c.row g).floor → BelowOut (LowIn to c.sent g) r v → BelowOut (LowIn c.bag c.sent g) (c.row g) v
      idle_back r none floor (inl l) = inl (omega (arith, floor))
      idle_back r none floor (inr b) = absurd (no_request (LowIn to c.sent g) r (next_request r) v (next_none r none) b)
  moved_back to r (TakesEvent q e s x asks con copy may is) raised calm b = by_out (subst (λ (r : TimeRow). BelowOut (LowIn to c.sent g) r v) is b)
    where
      by_out : BelowOut (LowIn to c.sent g) (row_after_pick (c.row g) q s) v → BelowOut (LowIn c.bag c.sent g) (c.row g) v
      by_out (inl l) = inl l
      by_out (inr w) = inr (picked_request to q s (next_request (c.row g)) asks con calm (λ n. ((may.1 n).asked, (may.1 n).first)) refl w)
  moved_back to r (TakesGrant q t asks may is) raised calm b = by_out (subst (λ (r : TimeRow). BelowOut (LowIn to c.sent g) r v) is b)
    where
      by_out : BelowOut (LowIn to c.sent g) (row_after_grant (c.row g) q t) v → BelowOut (LowIn c.bag c.sent g) (c.row g) v
      by_out (inl l) = ⊎_elim
          (λ (high : (c.row g).floor < v). granted_back q t asks may raised calm (omega arith))
          (λ (low : v ≤ (c.row g).floor). inl low)
          (cases_lt (c.row g).floor v)
      by_out (inr w) = absurd (no_request (LowIn to c.sent g) (row_after_grant (c.row g) q t) (next_request (row_after_grant (c.row g) q t)) v (next_none (row_after_grant (c.row g) q t) refl) w)

  outs_back : (d : Central) → MovesOne c d → IsRaised (c.row g) → IsInNoLateFlush (c.row g) → BelowOut (LowIn d.bag c.sent g) (d.row g) v → BelowOut (LowIn c.bag c.sent g) (c.row g) v
  outs_back d (NoRow rows goes) raised calm b = same_back d.bag (goes g) (subst (λ (row : ℕ → TimeRow). BelowOut (LowIn d.bag c.sent g) (row g) v) rows b)
  outs_back d (OneRow h r rows move goes) raised calm b = ⊎_elim
      (λ (e : h ≡ g). let here : Move c g r = subst (λ h. Move c h r) e move in
      let at : (d.row g) ≡ r = ap (λ (row : ℕ → TimeRow). row g) rows ∙ subst (λ h. upd c.row h r g ≡ r) (sym e) (upd_same c.row g r) in
      moved_back d.bag r here raised calm (subst (λ (r : TimeRow). BelowOut (LowIn d.bag c.sent g) r v) at b))
      (λ (ne : h ≢ g). let at : (d.row g) ≡ c.row g = ap (λ (row : ℕ → TimeRow). row g) rows ∙ upd_other c.row h r g ne in
      same_back d.bag (goes g ne) (subst (λ (r : TimeRow). BelowOut (LowIn d.bag c.sent g) r v) at b))
      (cases_eq h g)

  pub out_back : (d : Central) → RoundStep c d → IsRaised (c.row g) → IsInNoLateFlush (c.row g) → BelowOut (LowIn d.bag d.sent g) (d.row g) v → BelowOut (LowIn c.bag c.sent g) (c.row g) v
  out_back d step raised calm b = outs_back d step.moves raised calm (subst (λ sent. BelowOut (LowIn d.bag sent g) (d.row g) v) step.sent b)

  -- and no flush begins
  moved_calm : (r : TimeRow) → Move c g r → IsInNoLateFlush (c.row g) → IsInNoLateFlush r
  moved_calm r (Regulates was is) calm = rw is calm
  moved_calm r (Constrains was is) calm = rw is (λ p asks y. absurd (let none = (kept.rows g).resting was in let e : None ≡ Some p = sym none ∙ asks in cc))
  moved_calm r (TakesEvent q e s x asks con copy may is) calm = rw is calm
  moved_calm r (TakesGrant q t asks may is) calm = rw is (λ p e y. absurd (cc))

  calms : (d : Central) → MovesOne c d → IsInNoLateFlush (c.row g) → IsInNoLateFlush (d.row g)
  calms d (NoRow rows goes) calm = rw rows calm
  calms d (OneRow h r rows move goes) calm = ⊎_elim
      (λ (e : h ≡ g). let here : Move c g r = subst (λ h. Move c h r) e move in
      let at : (d.row g) ≡ r = ap (λ (row : ℕ → TimeRow). row g) rows ∙ subst (λ h. upd c.row h r g ≡ r) (sym e) (upd_same c.row g r) in
      subst IsInNoLateFlush (sym at) (moved_calm r here calm))
      (λ (ne : h ≢ g). let at : (d.row g) ≡ c.row g = ap (λ (row : ℕ → TimeRow). row g) rows ∙ upd_other c.row h r g ne in subst IsInNoLateFlush (sym at) calm)
      (cases_eq h g)

  pub calm_stays : (d : Central) → RoundStep c d → IsInNoLateFlush (c.row g) → IsInNoLateFlush (d.row g)
  calm_stays d step calm = calms d step.moves calm

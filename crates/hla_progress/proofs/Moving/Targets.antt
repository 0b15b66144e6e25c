-- What a federate waits for stays the same until it is granted
use Rattle.std.proofs.Common.{◌≡◌, ◌≢◌, ◌⊎◌, ℕ, ◌≤◌, true, false, refl, sym, ◌∙◌, subst, inl, inr, ⊎_elim, arith, Option, Some, None}
use Rattle.std.proofs.lemmas.Bool.{cases_eq}
use Rattle.hla_base.specs.declared.number.EventHandle.{EventHandle}
use Rattle.hla_base.specs.declared.content.Content.{Content}
use Rattle.hla_base.specs.declared.row.AdvanceRequest.{AdvanceRequest}
use Rattle.hla_base.specs.declared.row.TimeRow.{TimeRow}
use Rattle.hla_base.specs.Tables.{or_else}
use Rattle.hla_base.specs.Rows.{is_next, is_flush, is_constrained, row_after_pick}
use Rattle.hla_base.proofs.Tables.{upd_same, upd_other}
use Rattle.hla_machine.specs.Central.{Central, Tso, BelowWake}
use Rattle.hla_machine.specs.Callbacks.{IsCopy, MayPickIn}
use Rattle.hla_machine.proofs.Upkeep.Keeps.{Bag, IsCentralKept, NoMore, LowIn, low_fewer}
use Rattle.hla_progress.specs.CatchingUp.{IsTarget}
use Rattle.hla_progress.proofs.Moving.Rounds.{Move, Regulates, Constrains, TakesEvent, TakesGrant, NoneGoes, MovesOne, NoRow, OneRow, RoundStep}

-- the wake by what lies below, and by the first pick
abbrev pub WakeIn : (ℕ → Type 0) → AdvanceRequest → Option ℕ → ℕ → Type 0
WakeIn below q first t = BelowWake below q first t × ((x : ℕ) → BelowWake below q first x → x ≤ t)

pub wake_map : (below to : ℕ → Type 0) (q : AdvanceRequest) (first : Option ℕ) (x : ℕ) → (below x → to x) → BelowWake below q first x → BelowWake to q first x
wake_map below to q (Some p) x h w = w
wake_map below to q None x h w = (w.0, h w.1)

pub wake_same : (below to : ℕ → Type 0) (q : AdvanceRequest) (first : Option ℕ) (t : ℕ) → ((x : ℕ) → below x → to x) → ((x : ℕ) → to x → below x) → WakeIn below q first t → WakeIn to q first t
wake_same below to q first t up down w = (wake_map below to q first t (up t) w.0, λ x b. w.1 x (wake_map to below q first x (down x) b))

-- after a pick at s
wake_picked : (below to : ℕ → Type 0) (q : AdvanceRequest) (first : Option ℕ) (s t : ℕ) → s ≤ q.asked → below s → (below t → t ≤ s) → WakeIn below q first t → WakeIn to q (or_else first (Some s)) t
wake_picked below to q (Some p) s t a b high w = w
wake_picked below to q None s t a b high w = let low : s ≤ t = w.1 s (a, b) in (high w.0.1, λ x l. omega arith)

module _ (c : Central) (kept : IsCentralKept c) (f : ℕ) (q : AdvanceRequest) (t : ℕ) (asks : (c.row f).advance ≡ Some q) (con : is_constrained (c.row f) ≡ true) (fl : is_flush q.kind ≡ false) where
  abbrev TargetIn : Bag → TimeRow → Type 0
  TargetIn bag r = (is_next q.kind ≡ false → t ≡ q.asked) × (is_next q.kind ≡ true → WakeIn (LowIn bag c.sent f) q r.first_pick t)

  quiet_target : (to : Bag) → NoMore to c.bag → NoneGoes c to f → TargetIn c.bag (c.row f) → TargetIn to (c.row f)
  quiet_target to fewer goes w = (w.0, λ y. wake_same _ _ q (c.row f).first_pick t (λ x. low_fewer to c.bag c.sent fewer f x) (λ x low g m k is live tso. low g m k (goes g m k is live tso) live tso) (w.1 y))

  busy : (c.row f).advance ≡ None → ⊥
  busy none = let e : None ≡ Some q = sym none ∙ asks in cc

  taken_target : (to : Bag) (e : EventHandle) (s : ℕ) (x : Content) → IsCopy c f e (record { order = Tso; stamp = s; content = x }) → MayPickIn c f q e s → TargetIn c.bag (c.row f) → TargetIn to (row_after_pick (c.row f) q s)
  taken_target to e s x copy may w = let m = may.1 fl in (w.0, λ y. rw fl (wake_picked _ _ q (c.row f).first_pick s t m.asked m.first (λ low. low e.sender e.serial (record { order = Tso; stamp = s; content = x }) copy m.unretracted refl) (w.1 y)))

  own_target : (to : Bag) (r : TimeRow) → Move c f r → TargetIn c.bag (c.row f) → TargetIn to r ⊎ (r.advance ≡ None)
  own_target to r (Regulates was is) w = absurd (busy ((kept.rows f).idle was))
  own_target to r (Constrains was is) w = absurd (busy ((kept.rows f).resting was))
  own_target to r (TakesEvent k e s x ask con copy may is) w = let both : Some k ≡ Some q = sym ask ∙ asks in let same : k ≡ q = cc in
      inl (rw is (subst (λ (k : AdvanceRequest). TargetIn to (row_after_pick (c.row f) k s)) (sym same) (taken_target to e s x copy (subst (λ (k : AdvanceRequest). MayPickIn c f k e s) same may) w)))
  own_target to r (TakesGrant k u ask may is) w = inr (rw is refl)

  targets : (d : Central) → NoMore d.bag c.bag → MovesOne c d → TargetIn c.bag (c.row f) → TargetIn d.bag (d.row f) ⊎ ((d.row f).advance ≡ None)
  targets d fewer (NoRow rows goes) w = inl (rw rows (quiet_target d.bag fewer (goes f con) w))
  targets d fewer (OneRow h r rows move goes) w = rw rows (⊎_elim
      (λ (e : h ≡ f). let here : Move c f r = subst (λ h. Move c h r) e move in rw e (rw upd_same (own_target d.bag r here w)))
      (λ (ne : h ≢ f). rw upd_other (inl (quiet_target d.bag fewer (goes f ne con) w)))
      (cases_eq h f))

  pub target_stays : (d : Central) → RoundStep c d → IsTarget c f q t → IsTarget d f q t ⊎ ((d.row f).advance ≡ None)
  target_stays d step w = rw step.sent (targets d step.fewer step.moves w)

-- What steps of rounds keep of the machine's state: nobody may send less than before, and requests last until they are granted
use Rattle.std.proofs.Common.{◌≡◌, ℕ, cond, not, ◌&&◌, true, refl, sym, ◌∙◌, arith, Some, None}
use Rattle.hla_base.specs.declared.row.AdvanceRequest.{AdvanceRequest}
use Rattle.hla_base.specs.declared.row.Role.{Role}
use Rattle.hla_base.specs.declared.row.Role.TheVariants.{Disabled, Pending, Enabled}
use Rattle.hla_base.specs.declared.row.TimeRow.{TimeRow}
use Rattle.hla_base.specs.Rows.{is_next, is_constrained, is_regulator, is_disabled, is_pending, next_request, first_or, row_after_regulation_enabled, row_after_constraint_enabled, row_after_grant}
use Rattle.hla_base.proofs.Tables.{upd_each}
use Rattle.hla_machine.specs.Central.{Central, Tso, BelowOut}
use Rattle.hla_machine.specs.Callbacks.{MayGrant}
use Rattle.hla_machine.proofs.Basics.GrantCases.{grant_plain}
use Rattle.hla_machine.proofs.Basics.Rows.{next_not_flush, next_none, out_low, out_idle, out_picked, out_granted}
use Rattle.hla_machine.proofs.Upkeep.Keeps.{Bag, IsCentralKept, NoMore, LowIn, low_weaker, low_fewer}
use Rattle.hla_progress.proofs.Moving.Rounds.{Move, Regulates, Constrains, TakesEvent, TakesGrant, MovesOne, NoRow, OneRow, RoundStep}

-- a next-event request is no other than before
abbrev pub SameRequest : TimeRow → TimeRow → Type 0
SameRequest r s = (q : AdvanceRequest) → next_request s ≡ Some q → (next_request r ≡ Some q) × (s.lookahead ≡ r.lookahead)

module _ (c : Central) (kept : IsCentralKept c) where
  -- where a next-event request is granted
  pub next_granted : (h : ℕ) (q : AdvanceRequest) (t : ℕ) → MayGrant c h t q → is_constrained (c.row h) ≡ true → is_next q.kind ≡ true → t ≡ first_or (c.row h).first_pick q.asked
  next_granted h q t may con y =
      let at : t ≡ cond (is_next q.kind && is_constrained (c.row h)) (first_or (c.row h).first_pick q.asked) q.asked = (grant_plain c h q t may con (next_not_flush q.kind y)).0 in rw (y, con) at at

  -- ---- what a regulator may still send
  moved_out : (to : Bag) (h : ℕ) (r : TimeRow) (v : ℕ) → NoMore to c.bag → Move c h r → BelowOut (LowIn c.bag c.sent h) (c.row h) v → BelowOut (LowIn to c.sent h) r v
  moved_out to h r v fewer (Regulates was is) b = rw is (out_idle _ _ (c.row h) (row_after_regulation_enabled (c.row h)) v ((kept.rows h).idle was) (omega arith) b)
  moved_out to h r v fewer (Constrains was is) b = rw is (out_idle _ _ (c.row h) (row_after_constraint_enabled (c.row h)) v ((kept.rows h).resting was) (omega arith) b)
  moved_out to h r v fewer (TakesEvent q e s x asks con copy may is) b = rw is (out_picked _ _ (c.row h) q s v (λ y. low_fewer to c.bag c.sent fewer h y) (λ n y low. low e.sender e.serial (record { order = Tso; stamp = s; content = x }) copy (may.1 n).unretracted refl) b)
  moved_out to h r v fewer (TakesGrant q t asks may is) b = rw is (out_granted _ _ (c.row h) q t v asks (λ con y. omega (arith, next_granted h q t may con y)) b)

  same_out : (to : Bag) (g v : ℕ) → NoMore to c.bag → BelowOut (LowIn c.bag c.sent g) (c.row g) v → BelowOut (LowIn to c.sent g) (c.row g) v
  same_out to g v fewer b = out_low _ _ (c.row g) v (low_weaker c.bag c.sent g) (λ y _. low_fewer to c.bag c.sent fewer g y) b

  outs : (d : Central) → NoMore d.bag c.bag → MovesOne c d → (g v : ℕ) → BelowOut (LowIn c.bag c.sent g) (c.row g) v → BelowOut (LowIn d.bag c.sent g) (d.row g) v
  outs d fewer (NoRow rows goes) g v b = rw rows (same_out d.bag g v fewer b)
  outs d fewer (OneRow h r rows move goes) g v b = rw rows (upd_each c.row h r (λ g y. BelowOut (LowIn c.bag c.sent g) (c.row g) v → BelowOut (LowIn d.bag c.sent g) y v) (λ b. moved_out d.bag h r v fewer move b) (λ g ne b. same_out d.bag g v fewer b) g b)

  pub out_stays : (d : Central) → RoundStep c d → (g v : ℕ) → BelowOut (LowIn c.bag c.sent g) (c.row g) v → BelowOut (LowIn d.bag d.sent g) (d.row g) v
  out_stays d step g v b = rw step.sent (outs d step.fewer step.moves g v b)

  -- ---- who regulates
  was_regulator : (r : Role) → is_pending r ≡ true → not (is_disabled r) ≡ true
  was_regulator Disabled e = absurd (cc)
  was_regulator Pending e = refl
  was_regulator Enabled e = absurd (cc)

  moved_role : (h : ℕ) (r : TimeRow) → Move c h r → is_regulator r ≡ is_regulator (c.row h)
  moved_role h r (Regulates was is) = rw is (sym (was_regulator (c.row h).regulating was))
  moved_role h r (Constrains was is) = rw is refl
  moved_role h r (TakesEvent q e s x asks con copy may is) = rw is refl
  moved_role h r (TakesGrant q t asks may is) = rw is refl

  roles : (d : Central) → MovesOne c d → (g : ℕ) → is_regulator (d.row g) ≡ is_regulator (c.row g)
  roles d (NoRow rows goes) g = rw rows refl
  roles d (OneRow h r rows move goes) g = rw rows (upd_each c.row h r (λ g (y : TimeRow). is_regulator y ≡ is_regulator (c.row g)) (moved_role h r move) (λ _ _. refl) g)

  pub role_stays : (d : Central) → RoundStep c d → (g : ℕ) → is_regulator (d.row g) ≡ is_regulator (c.row g)
  role_stays d step g = roles d step.moves g

  -- ---- requests
  moved_request : (h : ℕ) (r : TimeRow) → Move c h r → SameRequest (c.row h) r
  moved_request h r (Regulates was is) = rw is (λ q e. (e, refl))
  moved_request h r (Constrains was is) = rw is (λ q e. absurd (let none = next_none (row_after_constraint_enabled (c.row h)) ((kept.rows h).resting was) in let no : None ≡ Some q = sym none ∙ e in cc))
  moved_request h r (TakesEvent k e s x asks con copy may is) = rw is (λ q e. (e, refl))
  moved_request h r (TakesGrant k t asks may is) = rw is (λ q e. absurd (let none = next_none (row_after_grant (c.row h) k t) refl in let no : None ≡ Some q = sym none ∙ e in cc))

  requests : (d : Central) → MovesOne c d → (g : ℕ) → SameRequest (c.row g) (d.row g)
  requests d (NoRow rows goes) g = rw rows (λ q e. (e, refl))
  requests d (OneRow h r rows move goes) g = rw rows (upd_each c.row h r (λ g y. SameRequest (c.row g) y) (moved_request h r move) (λ _ _ q e. (e, refl)) g)

  pub request_stays : (d : Central) → RoundStep c d → (g : ℕ) → SameRequest (c.row g) (d.row g)
  request_stays d step g = requests d step.moves g

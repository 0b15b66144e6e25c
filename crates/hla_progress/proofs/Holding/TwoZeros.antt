-- Two requests of width 0 hold each other, and who waits for both
use Rattle.std.proofs.Common.{◌≡◌, ◌≢◌, ℕ, ◌<◌, ltb, ◌&&◌, true, refl, sym, ◌∙◌, subst, ⊎_elim, arith, Option, Some, None}
use Rattle.std.proofs.lemmas.Bool.{cases_eq, cond_both, and_from}
use Rattle.hla_base.specs.declared.fault.Fault.{Fault}
use Rattle.hla_base.specs.declared.row.AdvanceRequest.{AdvanceRequest}
use Rattle.hla_base.specs.declared.row.TimeRow.{TimeRow}
use Rattle.hla_base.specs.Rows.{is_next, is_regulator, is_constrained, keep_if, next_request, width, reach, row_after_regulation_enabled, row_after_constraint_enabled, row_after_pick, row_after_grant}
use Rattle.hla_base.specs.Tables.{upd}
use Rattle.hla_base.proofs.Tables.{least_le, upd_same, upd_other}
use Rattle.hla_null_message.specs.Promise.{promise_in}
use Rattle.hla_component_rules.specs.declared.control.Control.TheVariants.{ToDiscover, ToRetract, ToTell}
use Rattle.hla_component_rules.specs.Queues.{first_stamp}
use Rattle.hla_component_rules.specs.Picking.{Pick, NoPick, PickControl, PickRo, PickRegulates, PickConstrains, PickTso, PickGrant}
use Rattle.hla_machine.specs.declared.step.Step.{Step}
use Rattle.hla_machine.specs.declared.step.Step.TheVariants.{Join, Call, Carry, Announce, Tick}
use Rattle.hla_machine.specs.declared.step.Answer.TheVariants as answer
use Rattle.hla_machine.specs.Refusals.{refusal}
use Rattle.hla_machine.proofs.Basics.Rows.{next_not_flush, le_reach}
use Rattle.hla_components.specs.Components.{Components}
use Rattle.hla_components.specs.Component.{local_bound, promise}
use Rattle.hla_components.specs.Invariant.{Inv, stamps}
use Rattle.hla_components.specs.Next.{Outcomes, answer_outcome, next, announce_outcome, pick_outcome, tick_outcome, unless_refused, components_seen, with_null_announced}
use Rattle.hla_components.specs.Headline.{IsLedTo}
use Rattle.hla_components.proofs.Wiring.Carries.{Carries-bound}
use Rattle.hla_components.proofs.Upkeep.Bounds.{other_from}
use Rattle.hla_components.proofs.Refinement.Picks.{PickFacts, GrantFacts, pick_tells}
use Rattle.hla_components.proofs.Refinement.LedTo.{led_inv}
use Rattle.hla_progress.specs.Rounds.{IsOfRounds}
use Rattle.hla_progress.specs.GettingOn.{IsOfNoWidth}
use Rattle.hla_progress.specs.Holding.{TwoHoldEachOther}
use Rattle.hla_progress.proofs.Keeping.Changes.{next_asked}
use Rattle.hla_progress.proofs.Waiting.Steps.{picked_at}
use Rattle.hla_progress.proofs.CatchUp.Carried.{next_on}
use Rattle.hla_progress.proofs.Holding.Denied.{never_in_list}
use Rattle.hla_progress.proofs.CatchUp.FirstRound.{floor_le}
use Rattle.hla_progress.proofs.Creep.Promising.{next_constrained}

-- what a row that holds has: its floor below x, and no request but one of width 0
pub record HoldsRow (r : TimeRow) (x : ℕ) : Type 0 where
  pub regulates : is_regulator r ≡ true
  pub constrained : is_constrained r ≡ true
  pub floor : r.floor < x
  pub request : (q : AdvanceRequest) → r.advance ≡ Some q → (is_next q.kind ≡ true) × (width r.lookahead q.kind ≡ 0)

pub record HoldsAt (s : Components) (x g : ℕ) : Type 0 where
  pub row : HoldsRow (s.row g) x
  pub last : s.last_announced g < x

-- ---- what such a federate promises
low_bound : (s : Components) (x f g : ℕ) → Inv s → f ≢ g → s.directory.joined f ≡ true → HoldsAt s x g → local_bound s f < x
low_bound s x f g inv ne member b =
    let reg = b.row.regulates in
    let joined = inv.kept.time.regulators g reg in
    let low = Carries-bound _ (s.last_announced g) (s.known_epoch f g) g (stamps s g) (s.serial g) (s.wire g f) (s.bound f g) (inv.kept.time.wires g f) (and_from _ _ reg (other_from s.directory.joined g f (λ e. ne (sym e)) member)) in
    omega (arith, least_le s.directory.next_federate (s.bound f) g (inv.kept.directory.members g joined), low, b.last)

low_in : (r : TimeRow) (x : ℕ) (o : Option AdvanceRequest) (queued bound : ℕ) → r.floor < x → bound < x → ((q : AdvanceRequest) → o ≡ Some q → width r.lookahead q.kind ≡ 0) → promise_in r o queued bound < x
low_in r x None queued bound a b zero = a
low_in r x (Some q) queued bound a b zero = omega (arith, a, b, zero q refl)

low_promise : (s : Components) (x g h : ℕ) → Inv s → g ≢ h → HoldsAt s x g → HoldsAt s x h → promise s g < x
low_promise s x g h inv ne a b = low_in (s.row g) x (next_request (s.row g)) (first_stamp (s.tso g)) (local_bound s g) a.row.floor
    (low_bound s x g h inv ne (inv.kept.time.regulators g a.row.regulates) b)
    (λ q waits. (a.row.request q (next_asked (s.row g) q waits)).1)

-- ---- steps
module _ (s : Components) (x g h : ℕ) (inv : Inv s) (ne : g ≢ h) (a : HoldsAt s x g) (b : HoldsAt s x h) where
  announce_holds : (k : ℕ) → HoldsAt (announce_outcome s k).state x g
  announce_holds k = cond_both (is_regulator (s.row k) && ltb (s.last_announced k) (promise s k))
      (answer_outcome (answer.Announced (Some (promise s k))) (with_null_announced s k (promise s k)))
      (answer_outcome (answer.Announced None) s) (λ (o : Outcomes). HoldsAt o.state x g)
      (λ _. record {
        row = a.row;
        last = ⊎_elim
            (λ (e : k ≡ g). rw (← e) (rw upd_same (subst (λ k. promise s k < x) (sym e) (low_promise s x g h inv ne a b))))
            (λ (other : k ≢ g). rw upd_other a.last)
            (cases_eq k g);
      })
      (λ _. a)

  own_row : (p : Pick) → PickFacts (s.controls g) (s.row g) (s.ro g) (s.tso g) (local_bound s g) p → (r : TimeRow) → ((pick_outcome s g p).state.row ≡ upd s.row g r) → HoldsRow r x → HoldsAt (pick_outcome s g p).state x g
  own_row p facts r is row = record { row = rw is (rw upd_same row); last = last_same p }
    where
      last_same : (p : Pick) → (pick_outcome s g p).state.last_announced g < x
      last_same NoPick = a.last
      last_same (PickControl (ToDiscover from d) rest) = a.last
      last_same (PickControl (ToRetract e) rest) = a.last
      last_same (PickControl (ToTell n) rest) = a.last
      last_same (PickRo e rest) = a.last
      last_same PickRegulates = a.last
      last_same PickConstrains = a.last
      last_same (PickTso q e rest) = a.last
      last_same (PickGrant q t) = a.last

  granted_row : (q : AdvanceRequest) (t : ℕ) → GrantFacts (s.row g) (s.tso g) (local_bound s g) q t → HoldsRow (row_after_grant (s.row g) q t) x
  granted_row q t facts =
      let z = a.row.request q facts.asks in
      let at = facts.reached a.row.constrained (next_not_flush q.kind z.0) in
      let low = low_bound s x g h inv ne (inv.kept.time.regulators g a.row.regulates) b in
      record { regulates = a.row.regulates; constrained = a.row.constrained; floor = omega (arith, a.row.floor, z.1, at.1, le_reach q.kind t, low); request = λ p e. absurd (cc) }

  pick_holds : (p : Pick) → PickFacts (s.controls g) (s.row g) (s.ro g) (s.tso g) (local_bound s g) p → HoldsAt (pick_outcome s g p).state x g
  pick_holds NoPick facts = a
  pick_holds (PickControl (ToDiscover from d) rest) facts = record { row = a.row; last = a.last }
  pick_holds (PickControl (ToRetract e) rest) facts = record { row = a.row; last = a.last }
  pick_holds (PickControl (ToTell n) rest) facts = record { row = a.row; last = a.last }
  pick_holds (PickRo e rest) facts = record { row = a.row; last = a.last }
  pick_holds PickRegulates facts = own_row PickRegulates facts (row_after_regulation_enabled (s.row g)) refl (record { regulates = refl; constrained = a.row.constrained; floor = a.row.floor; request = a.row.request })
  pick_holds PickConstrains facts = own_row PickConstrains facts (row_after_constraint_enabled (s.row g)) refl (record { regulates = a.row.regulates; constrained = refl; floor = a.row.floor; request = a.row.request })
  pick_holds (PickTso q e rest) facts = own_row (PickTso q e rest) facts (row_after_pick (s.row g) q e.stamp) refl (record { regulates = a.row.regulates; constrained = a.row.constrained; floor = a.row.floor; request = a.row.request })
  pick_holds (PickGrant q t) facts = own_row (PickGrant q t) facts (row_after_grant (s.row g) q t) refl (granted_row q t facts.1)

  other_pick : (k : ℕ) (p : Pick) → k ≢ g → HoldsAt (pick_outcome s k p).state x g
  other_pick k NoPick o = a
  other_pick k (PickControl (ToDiscover from d) rest) o = record { row = a.row; last = a.last }
  other_pick k (PickControl (ToRetract e) rest) o = record { row = a.row; last = a.last }
  other_pick k (PickControl (ToTell n) rest) o = record { row = a.row; last = a.last }
  other_pick k (PickRo e rest) o = record { row = a.row; last = a.last }
  other_pick k PickRegulates o = record { row = rw upd_other a.row; last = a.last }
  other_pick k PickConstrains o = record { row = rw upd_other a.row; last = a.last }
  other_pick k (PickTso q e rest) o = record { row = rw upd_other a.row; last = a.last }
  other_pick k (PickGrant q t) o = record { row = rw upd_other a.row; last = a.last }

  tick_holds : (k : ℕ) → HoldsAt (tick_outcome s k).state x g
  tick_holds k = ⊎_elim
      (λ (e : k ≡ g). subst (λ k. HoldsAt (tick_outcome s k).state x g) (sym e) (pick_holds (picked_at s g) (pick_tells (s.controls g) (s.row g) (s.ro g) (s.tso g) (local_bound s g))))
      (λ (o : k ≢ g). other_pick k (picked_at s k) o)
      (cases_eq k g)

  unless_holds : (r : Option Fault) (o : Outcomes) → HoldsAt o.state x g → HoldsAt (unless_refused r s o).state x g
  unless_holds None o w = w
  unless_holds (Some e) o w = a

  pub next_holds : (step : Step) → IsOfRounds step → HoldsAt (next s step).state x g
  next_holds (Join name) of = absurd of
  next_holds (Call k y) of = absurd of
  next_holds (Carry k l) of = let on = next_on s k l in record { row = rw on.row a.row; last = rw on.last a.last }
  next_holds (Announce k) of = unless_holds (refusal (components_seen s) (Announce k)) (announce_outcome s k) (announce_holds k)
  next_holds (Tick k) of = unless_holds (refusal (components_seen s) (Tick k)) (tick_outcome s k) (tick_holds k)

-- ---- who waits for both
holds_at : (s : Components) (x g : ℕ) → IsLedTo s → IsOfNoWidth s g → promise s g < x → HoldsAt s x g
holds_at s x g is z low =
    let asks = next_asked (s.row g) z.request z.waits in
    record {
      row = record {
        regulates = z.regulates;
        constrained = next_constrained (s.row g) z.request z.waits;
        floor = omega (arith, low, floor_le (s.row g) (next_request (s.row g)) (first_stamp (s.tso g)) (local_bound s g));
        request = λ p e. (let both : Some p ≡ Some z.request = sym e ∙ asks in let same : z.request ≡ p = cc in
            (next_kind (s.row g) p (subst (λ (p : AdvanceRequest). next_request (s.row g) ≡ Some p) same z.waits), subst (λ (p : AdvanceRequest). width (s.row g).lookahead p.kind ≡ 0) same z.narrow));
      };
      last = omega (arith, low, (led_inv s is).kept.time.promised g z.regulates);
    }
  where
    kept_kind : (o : Option AdvanceRequest) (p : AdvanceRequest) → keep_if (λ q. is_next q.kind) o ≡ Some p → is_next p.kind ≡ true
    kept_kind None p e = absurd (cc)
    kept_kind (Some y) p e = cond_both (is_next y.kind) (Some y) None (λ o. o ≡ Some p → is_next p.kind ≡ true) (λ is e. let same : y ≡ p = cc in subst (λ (p : AdvanceRequest). is_next p.kind ≡ true) same is) (λ _ e. absurd (cc)) e

    next_kind : (r : TimeRow) (p : AdvanceRequest) → next_request r ≡ Some p → is_next p.kind ≡ true
    next_kind r p e = cond_both (is_constrained r) (keep_if (λ q. is_next q.kind) r.advance) None (λ o. o ≡ Some p → is_next p.kind ≡ true) (λ _ e. kept_kind r.advance p e) (λ _ e. absurd (cc)) e

-- two others, or f and another, hold f
pub record BothHold (x g h : ℕ) (s : Components) : Type 0 where
  pub one : HoldsAt s x g
  pub other : HoldsAt s x h

low_here : (s : Components) (f g h x : ℕ) → IsLedTo s → s.directory.joined f ≡ true → g ≢ h → BothHold x g h s → local_bound s f < x
low_here s f g h x is member ne b = ⊎_elim
    (λ (e : f ≡ g). low_bound s x f h (led_inv s is) (λ same. ne (sym e ∙ same)) member b.other)
    (λ (other : f ≢ g). low_bound s x f g (led_inv s is) other member b.one)
    (cases_eq f g)

pub two_hold : TwoHoldEachOther
two_hold s f g h q t steps is w ne a b low high of v = let x = reach q.kind t in never_in_list f q t (BothHold x g h)
    (λ s is w c l. (let below = low_here s f g h x is w.joined ne c in omega arith))
    (λ s step is of c. record { one = next_holds s x g h (led_inv s is) ne c.one c.other step of; other = next_holds s x h g (led_inv s is) (λ e. ne (sym e)) c.other c.one step of })
    s steps is w (record { one = holds_at s x g is a low; other = holds_at s x h is b high }) of v

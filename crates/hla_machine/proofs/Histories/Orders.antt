-- The order of a federate's picks
use Rattle.std.proofs.Common.{◌≡◌, ◌⊎◌, ℕ, ◌+◌, ◌≤◌, ◌<◌, cond, ◌&&◌, not, Bool, true, false, refl, sym, ◌∙◌, le_trans, subst, inl, inr, ⊎_elim, arith, eq-eqb, List, [], ◌∷◌, Option, Some, None, IfSome}
use Rattle.std.proofs.lemmas.Bool.{cond_both, cases_Bool, cases_lt}
use Rattle.hla_base.specs.declared.number.EventHandle.{EventHandle}
use Rattle.hla_base.specs.declared.row.AdvanceKind.{AdvanceKind}
use Rattle.hla_base.specs.declared.row.AdvanceKind.TheVariants.{TimeAdvance, TimeAdvanceAvailable, NextEvent, NextEventAvailable, FlushQueue}
use Rattle.hla_base.specs.declared.row.AdvanceRequest.{AdvanceRequest}
use Rattle.hla_base.specs.Tables.{or_else}
use Rattle.hla_base.specs.Rows.{is_strict, is_next, is_flush, is_constrained, is_advancing, is_none_of, row_after_pick, bar_after, first_or, reach}
use Rattle.hla_machine.specs.Central.{Central, Copy, Tso, at_key, KeyLe}
use Rattle.hla_machine.specs.Callbacks.{MayPick, row_after}
use Rattle.hla_machine.specs.Machine.{MayEnd}
use Rattle.hla_machine.specs.Runs.{Happening, IsRun}
use Rattle.hla_machine.specs.History.{Picks, HappenAfter, IsInNoFlush, IsInStrict, IsInOneAdvance, IsBefore, next_state}
use Rattle.hla_base.proofs.Tables.{upd_same}
use Rattle.hla_machine.proofs.Basics.GrantCases.{grant_plain}
use Rattle.hla_machine.proofs.Basics.Rows.{le_reach}
use Rattle.hla_machine.proofs.Upkeep.Keeps.{IsCentralKept, fewer_removed}
use Rattle.hla_machine.proofs.Upkeep.Runs.{row_after_is}
use Rattle.hla_machine.proofs.Upkeep.Turns.{Turn, Fresh, Calm, Asked, Entered, Regulated, Rested, Picked, Granted, step_turn}
use Rattle.hla_machine.proofs.Upkeep.News.{NewsAndJoins, step_change}
use Rattle.hla_machine.proofs.Upkeep.Ahead.{Taken, taken_of, pick_ahead, Reachable, reachable, reachable_step, reachable_run, time_grows}

-- the state after a pick
picked_row : (c d : Central) (f : ℕ) (e : EventHandle) (s : ℕ) (t : Taken c d f e s) → d.row f ≡ row_after_pick (c.row f) t.request s
picked_row c d f e s t = subst (λ (d : Central). d.row f ≡ row_after_pick (c.row f) t.request s) (sym t.follows)
    (upd_same c.row f (row_after (c.row f) (c.row f).advance (λ q. row_after_pick (c.row f) q s)) ∙ row_after_is (c.row f) (c.row f).advance t.request (λ q. row_after_pick (c.row f) q s) t.asks)

-- P holds of each waiting key and stamp, and of all from v on
module _ (f s v : ℕ) (P : ℕ → ℕ → ℕ → Type 0) (from : (g m x : ℕ) → v ≤ x → P g m x) (least : (g m x : ℕ) → P g m x → s ≤ x) where
  -- f is still in the advance of its pick at s
  pub record Within (c : Central) : Type 0 where
    pub request : AdvanceRequest
    pub asks : (c.row f).advance ≡ Some request
    pub unflushed : is_flush request.kind ≡ false
    pub constrained : is_constrained (c.row f) ≡ true
    pub bar : v ≤ (c.row f).bar
    pub waiting : (g m : ℕ) (k : Copy) → c.bag g m f ≡ Some k → (c.sent g m).retracted ≡ false → k.order ≡ Tso → P g m k.stamp
    pub asked : s ≤ request.asked
    pub first : is_next request.kind ≡ true → (p : ℕ) × ((c.row f).first_pick ≡ Some p) × (s ≤ p)

  pub data Phase (c : Central) : Type 0 where
    Gone : c.directory.joined f ≡ false → f < c.directory.next_federate → Phase c
    Past : s ≤ (c.row f).time → Phase c
    Still : Within c → Phase c

  -- the phase of one who was still in its advance
  pub data Later (c : Central) : Type 0 where
    Left : c.directory.joined f ≡ false → f < c.directory.next_federate → Later c
    Done : s ≤ (c.row f).time → (c.row f).advance ≡ None → Later c
    Stays : Within c → Later c

  -- a step within the advance
  within_turn : (c d : Central) → IsCentralKept c → NewsAndJoins c d → (w : Within c) → c.directory.joined f ≡ true → Turn c f (d.row f) (d.directory.joined f) → Later d
  within_turn c d k ch w member (Fresh is left) = Left (left member) (le_trans (k.members f member) ch.joins.up)
  within_turn c d k ch w member (Calm same) = Stays (record {
    request = w.request;
    asks = same.advance ∙ w.asks;
    unflushed = w.unflushed;
    constrained = rw same.constrained w.constrained;
    bar = let l = w.bar in omega (arith, same.bar);
    waiting = next_waiting;
    asked = w.asked;
    first = λ y. let p = w.first y in (p.0, same.first ∙ p.1, p.2);
  })
    where
      next_waiting : (g m : ℕ) (k : Copy) → d.bag g m f ≡ Some k → (d.sent g m).retracted ≡ false → k.order ≡ Tso → P g m k.stamp
      next_waiting g m x is live tso = ⊎_elim
          (λ (new : is_constrained (c.row f) ≡ true → (c.row f).bar ≤ x.stamp). from g m x.stamp (le_trans w.bar (new w.constrained)))
          (λ (old : (c.bag g m f ≡ Some x) × ((c.sent g m).retracted ≡ false)). w.waiting g m x old.0 old.1 tso)
          (ch.news f g m x is live tso)
  within_turn c d k ch w member (Asked kind a idle settled low is) = absurd (let e : None ≡ Some w.request = sym idle ∙ w.asks in cc)
  within_turn c d k ch w member (Entered lookahead e idle low is) = absurd (let e : None ≡ Some w.request = sym idle ∙ w.asks in cc)
  within_turn c d k ch w member (Regulated was is) = absurd (let e : None ≡ Some w.request = sym ((k.rows f).idle was) ∙ w.asks in cc)
  within_turn c d k ch w member (Rested idle rests same_time same_role same_regulation) = absurd (let e : None ≡ Some w.request = sym idle ∙ w.asks in cc)
  within_turn c d k ch w member (Picked q e x y asks con copy may is) = Stays (record {
    request = w.request;
    asks = rw is w.asks;
    unflushed = w.unflushed;
    constrained = rw is w.constrained;
    bar = rw is (cond_both (is_flush q.kind) (c.row f).bar (bar_after (c.row f) q.kind x) (λ b. v ≤ b) (λ _. w.bar) (λ _. let l = w.bar in omega arith));
    waiting = λ g m x is live tso. ⊎_elim
        (λ (new : is_constrained (c.row f) ≡ true → (c.row f).bar ≤ x.stamp). from g m x.stamp (le_trans w.bar (new w.constrained)))
        (λ (old : (c.bag g m f ≡ Some x) × ((c.sent g m).retracted ≡ false)). w.waiting g m x old.0 old.1 tso)
        (ch.news f g m x is live tso);
    asked = w.asked;
    first = λ y. let p = w.first y in (p.0, rw (is, p.1) (cond_both (is_flush q.kind) (Some p.0) (Some p.0) (λ o. o ≡ Some p.0) (λ _. refl) (λ _. refl)), p.2);
  })
  within_turn c d k ch w member (Granted q t asks may is) = Done (rw is late) (rw is refl)
    where
      same : w.request ≡ q
      same = let e : Some w.request ≡ Some q = sym w.asks ∙ asks in cc

      at_grant : (b : Bool) (o : Option ℕ) → s ≤ q.asked → (b ≡ true → (p : ℕ) × (o ≡ Some p) × (s ≤ p)) → s ≤ cond b (first_or o q.asked) q.asked
      at_grant true None l h = let p = h refl in absurd (let e = p.1 in cc)
      at_grant true (Some p) l h = let w = h refl in let e : p ≡ w.0 = (let i = w.1 in cc) in let l2 = w.2 in omega arith
      at_grant false o l h = l

      late : s ≤ t
      late =
          let un : is_flush q.kind ≡ false = subst (λ (q : AdvanceRequest). is_flush q.kind ≡ false) same w.unflushed in
          let first : is_next q.kind ≡ true → (p : ℕ) × ((c.row f).first_pick ≡ Some p) × (s ≤ p) = subst (λ (q : AdvanceRequest). is_next q.kind ≡ true → (p : ℕ) × ((c.row f).first_pick ≡ Some p) × (s ≤ p)) same w.first in
          let asked : s ≤ q.asked = subst (λ (q : AdvanceRequest). s ≤ q.asked) same w.asked in
          let at = (grant_plain c f q t may w.constrained un).0 in
          let l = at_grant (is_next q.kind && is_constrained (c.row f)) (c.row f).first_pick asked (λ b. first (and_first (is_next q.kind) (is_constrained (c.row f)) b)) in
          omega (arith, at)
        where
          and_first : (a b : Bool) → (a && b) ≡ true → a ≡ true
          and_first true b h = refl
          and_first false b h = absurd (cc)

  pub within_step : (c : Central) (h : Happening) → MayEnd c h.step h.outcome h.choice → IsCentralKept c → Within c → Later (next_state c h)
  within_step c h may k w = within_turn c (next_state c h) k (step_change c h.step h.outcome h.choice may k) w (k.constrained f w.constrained) (step_turn c h.step h.outcome h.choice may k f)

  phase_later : (c : Central) → Later c → Phase c
  phase_later c (Left a b) = Gone a b
  phase_later c (Done a b) = Past a
  phase_later c (Stays w) = Still w

  not_both : (b : Bool) → ((b ≡ true) → ⊥) → b ≡ false
  not_both true h = absurd (h refl)
  not_both false h = refl

  gone_step : (c d : Central) → NewsAndJoins c d → c.directory.joined f ≡ false → f < c.directory.next_federate → Phase d
  gone_step c d ch out low = Gone (not_both (d.directory.joined f) (λ j. let e = ch.joins.old f low j in cc)) (le_trans low ch.joins.up)

  phase_step : (c : Central) (h : Happening) → MayEnd c h.step h.outcome h.choice → Reachable c → Phase c → f < c.directory.next_federate → Phase (next_state c h)
  phase_step c h may r (Gone out low) _ = gone_step c (next_state c h) (step_change c h.step h.outcome h.choice may r.kept) out low
  phase_step c h may r (Past l) low = ⊎_elim
      (λ (was : c.directory.joined f ≡ true). ⊎_elim
      (λ (now : (next_state c h).directory.joined f ≡ true). Past (le_trans l (time_grows c r.kept f (r.timely f) _ _ (step_turn c h.step h.outcome h.choice may r.kept f) was now)))
      (λ (out : (next_state c h).directory.joined f ≡ false). Gone out (le_trans low (step_change c h.step h.outcome h.choice may r.kept).joins.up))
      (cases_Bool ((next_state c h).directory.joined f)))
      (λ (out : c.directory.joined f ≡ false). gone_step c (next_state c h) (step_change c h.step h.outcome h.choice may r.kept) out low)
      (cases_Bool (c.directory.joined f))
  phase_step c h may r (Still w) low = phase_later (next_state c h) (within_step c h may r.kept w)

  pub phase_run : (c : Central) (hs : List Happening) (d : Central) → IsRun c hs d → Reachable c → f < c.directory.next_federate → Phase c → Phase d
  phase_run c [] d run r low p = subst Phase run p
  phase_run c (h ∷ hs) d run r low p =
      phase_run (next_state c h) hs d run.1 (reachable_step c h run.0.0 r) (le_trans low (step_change c h.step h.outcome h.choice run.0.0 r.kept).joins.up) (phase_step c h run.0.0 r p low)

  pub later_run : (c : Central) (hs : List Happening) (d : Central) → IsRun c hs d → Reachable c → IsInOneAdvance c hs f → Within c → (Within d) ⊎ (d.directory.joined f ≡ false)
  later_run c [] d run r one w = inl (subst Within run w)
  later_run c (h ∷ hs) d run r one w = after_one (later_run (next_state c h) hs d run.1 (reachable_step c h run.0.0 r) one.1) (within_step c h run.0.0 r.kept w)
    where
      not_idle : (o : Option AdvanceRequest) → not (is_none_of o) ≡ true → o ≡ None → ⊥
      not_idle None e i = absurd (cc)
      not_idle (Some q) e i = absurd (cc)

      advancing_now : (c : Central) (hs : List Happening) → IsInOneAdvance c hs f → is_advancing (c.row f) ≡ true
      advancing_now c [] one = one
      advancing_now c (h ∷ hs) one = one.0

      idle_out : (c : Central) (hs : List Happening) (d : Central) → IsRun c hs d → Reachable c → c.directory.joined f ≡ false → f < c.directory.next_federate → d.directory.joined f ≡ false
      idle_out c [] d run r out low = subst (λ (c : Central). c.directory.joined f ≡ false) run out
      idle_out c (h ∷ hs) d run r out low =
          let ch = step_change c h.step h.outcome h.choice run.0.0 r.kept in
          idle_out (next_state c h) hs d run.1 (reachable_step c h run.0.0 r) (not_both ((next_state c h).directory.joined f) (λ j. let e = ch.joins.old f low j in cc)) (le_trans low ch.joins.up)

      after_one : (Within (next_state c h) → (Within d) ⊎ (d.directory.joined f ≡ false)) → Later (next_state c h) → (Within d) ⊎ (d.directory.joined f ≡ false)
      after_one later (Left out low) = inr (idle_out (next_state c h) hs d run.1 (reachable_step c h run.0.0 r) out low)
      after_one later (Done l idle) = absurd (not_idle ((next_state c h).row f).advance (advancing_now (next_state c h) hs one.1) idle)
      after_one later (Stays w) = later w

  pub later_pick : (c d : Central) (x : EventHandle) (t : ℕ) → IsCentralKept c → (Within c) ⊎ (c.directory.joined f ≡ false) → Taken c d f x t → P x.sender x.serial t
  later_pick c d x t k (inr out) y = absurd (let j = k.constrained f y.constrained in cc)
  later_pick c d x t k (inl w) y =
      let same : w.request ≡ y.request = (let e : Some w.request ≡ Some y.request = sym w.asks ∙ y.asks in cc) in
      let m = y.may.1 (subst (λ (q : AdvanceRequest). is_flush q.kind ≡ false) same w.unflushed) in
      w.waiting x.sender x.serial (record { order = Tso; stamp = t; content = y.body }) y.copy m.unretracted refl

  pub phase_pick : (c d : Central) (x : EventHandle) (t : ℕ) → IsCentralKept c → Phase c → Taken c d f x t → s ≤ t
  phase_pick c d x t k (Gone out low) y = absurd (let j = k.constrained f y.constrained in cc)
  phase_pick c d x t k (Past l) y = le_trans l (pick_ahead c d f x t k y)
  phase_pick c d x t k (Still w) y = least x.sender x.serial t (later_pick c d x t k (inl w) y)

  -- just after the pick
  pub within_start : (c d : Central) (e : EventHandle) → (t : Taken c d f e s) → is_flush t.request.kind ≡ false → v ≤ reach t.request.kind s
      → ((g m : ℕ) (k : Copy) → at_key c.bag e.sender e.serial f None g m f ≡ Some k → (c.sent g m).retracted ≡ false → k.order ≡ Tso → P g m k.stamp) → Within d
  within_start c d e t un high waits =
      let is = picked_row c d f e s t in
      let m = t.may.1 un in
      record {
        request = t.request;
        asks = rw is t.asks;
        unflushed = un;
        constrained = rw is t.constrained;
        bar = rw (is, un) (omega arith);
        waiting = subst (λ (d : Central). (g m : ℕ) (k : Copy) → d.bag g m f ≡ Some k → (d.sent g m).retracted ≡ false → k.order ≡ Tso → P g m k.stamp) (sym t.follows) waits;
        asked = m.asked;
        first = λ y. let p = or_first (c.row f).first_pick (m.at_first_pick y) in (p.0, rw (is, un) p.1, p.2);
      }
    where
      or_first : (o : Option ℕ) → IfSome o (λ p. s ≡ p) → (p : ℕ) × (or_else o (Some s) ≡ Some p) × (s ≤ p)
      or_first None h = (s, refl, omega arith)
      or_first (Some p) h = (p, refl, omega (arith, h))

-- ---- stamps
next_low : (c : Central) (h : Happening) (f : ℕ) → MayEnd c h.step h.outcome h.choice → IsCentralKept c → is_constrained (c.row f) ≡ true → f < (next_state c h).directory.next_federate
next_low c h f may k con = le_trans (k.members f (k.constrained f con)) (step_change c h.step h.outcome h.choice may k).joins.up

pub stamps_never_fall : (c : Central) (h : Happening) (between : List Happening) (d : Central) (i : Happening) (f : ℕ) (e x : EventHandle) (s t : ℕ)
    → HappenAfter c h between d i → IsInNoFlush (c.row f) → Picks h f e s → Picks i f x t → s ≤ t
stamps_never_fall c h between d i f e x s t after calm first second =
    let may = after.first.allowed.0 in
    let r = reachable c h after.first in
    let y = taken_of c h f e s may first in
    let un = calm y.request y.asks in
    let m = y.may.1 un in
    let w = within_start f s s (λ g m x. s ≤ x) (λ g m x l. l) (λ g m x l. l) c (next_state c h) e y un (le_reach y.request.kind s)
    (λ g n k is live tso. m.first g n k (fewer_removed c.bag e.sender e.serial f g n f k is tso) live tso) in
    let r2 = reachable_step c h may r in
    let p = phase_run f s s (λ g m x. s ≤ x) (λ g m x l. l) (λ g m x l. l) (next_state c h) between d after.run r2 (next_low c h f may r.kept y.constrained) (Still w) in
    phase_pick f s s (λ g m x. s ≤ x) (λ g m x l. l) (λ g m x l. l) d (next_state d i) x t (reachable_run (next_state c h) between d after.run r2).kept p (taken_of d i f x t after.allowed.0 second)

-- ---- keys
strict_not_flush : (k : AdvanceKind) → is_strict k ≡ true → is_flush k ≡ false
strict_not_flush TimeAdvance e = refl
strict_not_flush TimeAdvanceAvailable e = refl
strict_not_flush NextEvent e = refl
strict_not_flush NextEventAvailable e = refl
strict_not_flush FlushQueue e = absurd (cc)

-- what was taken is not there
taken_away : (bag : ℕ → ℕ → ℕ → Option Copy) (g m f : ℕ) (k : Copy) → at_key bag g m f None g m f ≡ Some k → ⊥
unfolding at_key
taken_away bag g m f k is = let e : None ≡ Some k = rw (eq-eqb g g refl, eq-eqb m m refl, eq-eqb f f refl) at is in cc

abbrev After : EventHandle → ℕ → ℕ → ℕ → ℕ → Type 0
After e s g m x = (s < x) ⊎ ((s ≡ x) × ((e.sender < g) ⊎ ((e.sender ≡ g) × (e.serial < m))))

after_least : (e : EventHandle) (s g m x : ℕ) → After e s g m x → s ≤ x
after_least e s g m x (inl l) = omega arith
after_least e s g m x (inr w) = omega (arith, w.0)

key_after : (bag : ℕ → ℕ → ℕ → Option Copy) (e : EventHandle) (f g m : ℕ) (k : Copy) → at_key bag e.sender e.serial f None g m f ≡ Some k → KeyLe e.sender e.serial g m → (e.sender < g) ⊎ ((e.sender ≡ g) × (e.serial < m))
key_after bag e f g m k is (inl l) = inl l
key_after bag e f g m k is (inr w) = ⊎_elim
    (λ (l : e.serial < m). inr (w.0, l))
    (λ (l : m ≤ e.serial). absurd (let same : e.serial ≡ m = (let l2 = w.1 in omega arith) in
    taken_away bag e.sender e.serial f k (subst (λ m. at_key bag e.sender e.serial f None e.sender m f ≡ Some k) (sym same) (subst (λ g. at_key bag e.sender e.serial f None g m f ≡ Some k) (sym w.0) is))))
    (cases_lt e.serial m)

pub keys_rise : (c : Central) (h : Happening) (between : List Happening) (d : Central) (i : Happening) (f : ℕ) (e x : EventHandle) (s t : ℕ)
    → HappenAfter c h between d i → IsInStrict (c.row f) → IsInOneAdvance (next_state c h) between f → Picks h f e s → Picks i f x t → IsBefore e s x t
keys_rise c h between d i f e x s t after strict one first second =
    let may = after.first.allowed.0 in
    let r = reachable c h after.first in
    let y = taken_of c h f e s may first in
    let is_so = strict y.request y.asks in
    let un = strict_not_flush y.request.kind is_so in
    let m = y.may.1 un in
    let w = within_start f s (s + 1) (After e s) (λ g m x l. inl (omega arith)) (after_least e s) c (next_state c h) e y un (rw is_so (omega arith))
    (λ g n k is live tso. waits m is_so g n k is (fewer_removed c.bag e.sender e.serial f g n f k is tso) live tso) in
    let r2 = reachable_step c h may r in
    let p = later_run f s (s + 1) (After e s) (λ g m x l. inl (omega arith)) (after_least e s) (next_state c h) between d after.run r2 one w in
    later_pick f s (s + 1) (After e s) (λ g m x l. inl (omega arith)) (after_least e s) d (next_state d i) x t (reachable_run (next_state c h) between d after.run r2).kept p (taken_of d i f x t after.allowed.0 second)
  where
    waits : {q : AdvanceRequest} → MayPick c f q e s → is_strict q.kind ≡ true → (g n : ℕ) (k : Copy) → at_key c.bag e.sender e.serial f None g n f ≡ Some k → c.bag g n f ≡ Some k → (c.sent g n).retracted ≡ false → k.order ≡ Tso → After e s g n k.stamp
    waits m is_so g n k is was live tso = ⊎_elim
        (λ (l : s < k.stamp). inl l)
        (λ (l : k.stamp ≤ s). let low = m.first g n k was live tso in let same : k.stamp ≡ s = omega arith in inr (sym same, key_after c.bag e f g n k is (m.least_key is_so g n k was live tso same)))
        (cases_lt s k.stamp)

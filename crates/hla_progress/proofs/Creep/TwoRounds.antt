-- Each two rounds bring on all promises by the widths of two that are slow
use Rattle.std.proofs.Common.{◌≡◌, ◌≢◌, ℕ, zero, suc, ◌+◌, ◌-◌, ◌*◌, ◌≤◌, ◌<◌, min, true, refl, sym, ◌∙◌, ap, subst, ⊎_elim, arith, ◌++◌}
use Rattle.std.proofs.lemmas.Bool.{cases_lt}
use Rattle.std.proofs.Math.Nat.{suc-mul}
use Rattle.hla_base.specs.Tables.{forever}
use Rattle.hla_base.specs.Rows.{is_regulator, next_request, width}
use Rattle.hla_component_rules.specs.Queues.{first_stamp}
use Rattle.hla_machine.specs.Central.{BelowAllTso, BelowRequest}
use Rattle.hla_components.specs.CentralOf.{central}
use Rattle.hla_components.specs.Components.{Components}
use Rattle.hla_components.specs.Component.{local_bound, promise}
use Rattle.hla_components.specs.Headline.{state_after}
use Rattle.hla_components.proofs.Refinement.LedTo.{led_inv, state_appended}
use Rattle.hla_progress.specs.Rounds.{round, rounds}
use Rattle.hla_progress.specs.CatchingUp.{IsSlow}
use Rattle.hla_progress.specs.Creeping.{EachPairIsWide, EachSlowPromises}
use Rattle.hla_progress.proofs.CatchUp.FirstRound.{floor_le, slow_by}
use Rattle.hla_progress.proofs.Creep.Promising.{slow_ge}
use Rattle.hla_progress.proofs.Creep.OneRound.{StandsAbove, round_after, stands_on, round_role, round_heard, slow_since, slow_width, wide_on}

-- each regulator promises x, or b or more
abbrev pub Says : ℕ → ℕ → Components → Type 0
Says x b s = (g : ℕ) → is_regulator (s.row g) ≡ true → min x b ≤ promise s g

module _ (x n m : ℕ) (s : Components) (st : StandsAbove x n m s) where
  -- a regulator is slow for x, or promises it
  pub by_slowness : (P : Type 0) (g : ℕ) → is_regulator (s.row g) ≡ true → (x ≤ promise s g → P) → (IsSlow s x g → P) → P
  by_slowness P g reg high slow = ⊎_elim
      (λ (l : promise s g < x). slow (slow_is g reg l))
      high
      (cases_lt (promise s g) x)
    where
      slow_is : (g : ℕ) → is_regulator (s.row g) ≡ true → promise s g < x → IsSlow s x g
      slow_is g reg l = ⊎_elim
          (λ (a : x ≤ (s.row g).floor). absurd (let f = floor_le (s.row g) (next_request (s.row g)) (first_stamp (s.tso g)) (local_bound s g) in omega arith))
          (λ (b : BelowRequest (BelowAllTso (central s) g) (s.row g) (next_request (s.row g)) x). slow_by s x g (next_request (s.row g)) refl reg l b)
          (st.outs g ((led_inv s st.led).kept.time.regulators g reg) reg)

  pub says_promised : (y : ℕ) → EachSlowPromises s x y → Says x y s
  says_promised y promised g reg = by_slowness (min x y ≤ promise s g) g reg (λ l. omega arith) (λ a. let l = promised g a in omega arith)

  abbrev t : Components
  t = round_after n m s

  was_regulator : (g : ℕ) → is_regulator (t.row g) ≡ true → is_regulator (s.row g) ≡ true
  was_regulator g reg = sym (round_role x n m s st g) ∙ reg

  member : (g : ℕ) → is_regulator (s.row g) ≡ true → s.directory.joined g ≡ true
  member g reg = (led_inv s st.led).kept.time.regulators g reg

  -- one round: who is slow after it promises its width above what all said before it
  pub one_round : (v : ℕ) → v ≤ forever → (g : ℕ) → ((h : ℕ) → h ≢ g → is_regulator (s.row h) ≡ true → v ≤ promise s h) → (a : IsSlow t x g) → min x (v + width (t.row g).lookahead a.request.kind) ≤ promise t g
  one_round v cap g says a =
      let reg = was_regulator g a.regulates in
      let known = round_heard x n m s st g v (member g reg) cap (λ h ne j r. says h ne r) in
      let on = stands_on x n m s st in
      omega (arith, known, slow_ge t g x on.led a (on.outs g ((led_inv t on.led).kept.time.regulators g a.regulates) a.regulates))

-- two rounds
module _ (x n m w b : ℕ) (s : Components) (st : StandsAbove x n m s) (wide : EachPairIsWide s x w) (says : Says x b s) where
  abbrev first : Components
  first = round_after n m s

  abbrev second : Components
  second = round_after n m first

  on_first : StandsAbove x n m first
  on_first = stands_on x n m s st

  -- what h said after the first, where g is slow after it with the width v
  other_said : (g : ℕ) (a : IsSlow first x g) (h : ℕ) → h ≢ g → is_regulator (first.row h) ≡ true → min x (b + (w - width (first.row g).lookahead a.request.kind)) ≤ promise first h
  other_said g a h ne reg = by_slowness x n m first on_first (min x (b + (w - width (first.row g).lookahead a.request.kind)) ≤ promise first h) h reg
      (λ l. omega arith)
      (λ c. let one = one_round x n m s st (min x b) (let top = st.cap in omega arith) h (λ k _ r. says k r) c in
      let pair = wide_on x n m s st w wide g h (λ e. ne (sym e)) a c in omega arith)

  pub two_rounds : Says x (b + w) second
  two_rounds g reg = by_slowness x n m second (stands_on x n m first on_first) (min x (b + w) ≤ promise second g) g reg
      (λ l. omega arith)
      (λ a. let was = slow_since x n m first on_first g a in
      let v = min x (b + (w - width (first.row g).lookahead a.request.kind)) in
      let one = one_round x n m first on_first v (let top = st.cap in omega arith) g (λ h ne r. other_said g was h ne r) a in
      let same = slow_width x n m first on_first g a in
      let size : width (second.row g).lookahead a.request.kind ≡ width (first.row g).lookahead a.request.kind = ap (λ l. width l a.request.kind) same in
      omega (arith, one, size))

-- ---- many
twice_more : (k : ℕ) → 2 * suc k ≡ suc (suc (2 * k))
twice_more k = omega arith

once_more : (k w b : ℕ) → b + w + k * w ≡ b + suc k * w
once_more k w b = omega (arith, suc-mul k w)

pub record HaveSaid (x n m b : ℕ) (s : Components) : Type 0 where
  pub stands : StandsAbove x n m s
  pub says : Says x b s

pub many_rounds : (x n m w k b : ℕ) (s : Components) → StandsAbove x n m s → EachPairIsWide s x w → Says x b s → HaveSaid x n m (b + k * w) (state_after s (rounds (2 * k) n m))
many_rounds x n m w zero b s st wide says = record { stands = st; says = λ g reg. let l = says g reg in omega arith }
many_rounds x n m w (suc k) b s st wide says =
    let first = round_after n m s in let second = round_after n m first in
    let on_first = stands_on x n m s st in
    let later = many_rounds x n m w k (b + w) second (stands_on x n m first on_first) (wide_on x n m first on_first w (wide_on x n m s st w wide)) (two_rounds x n m w b s st wide says) in
    let at : HaveSaid x n m (b + suc k * w) (state_after second (rounds (2 * k) n m)) = subst (λ v. HaveSaid x n m v (state_after second (rounds (2 * k) n m))) (once_more k w b) later in
    subst (λ (u : Components). HaveSaid x n m (b + suc k * w) u) (sym (grouped s)) at
  where
    grouped : (s : Components) → state_after s (rounds (2 * suc k) n m) ≡ state_after (round_after n m (round_after n m s)) (rounds (2 * k) n m)
    grouped s = ap (λ j. state_after s (rounds j n m)) (twice_more k) ∙ state_appended s (round n m) (round n m ++ rounds (2 * k) n m) ∙ state_appended (round_after n m s) (round n m) (rounds (2 * k) n m)

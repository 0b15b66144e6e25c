-- The greatest bar and the wakes, step by step, and what bounds an entry
use Rattle.std.proofs.Common.{◌≡◌, ◌≢◌, ◌⊎◌, ℕ, zero, suc, ◌+◌, ◌*◌, ◌<◌, ◌≤◌, max, eqb, ltb, not, ◌&&◌, ◌||◌, Bool, true, false, None, List, length, refl, sym, ◌∙◌, subst, ⊎_elim, arith, eqb-true, eq-eqb}
use mathlib.Core.Bool.{false≢true}
use Rattle.std.specs.Bool.{Decides}
use Rattle.std.proofs.lemmas.Bool.{ltb-true, ltb-false}
use Rattle.std.proofs.lemmas.Bool.Decides.{Decides-below_or, nat_tests}
use Rattle.hla_base.specs.Limits.{max_time, max_enablings}
use Rattle.hla_base.specs.declared.row.TimeRow.{TimeRow}
use Rattle.hla_base.specs.RowRefusals.{first_fault, regulation_tests}
use Rattle.hla_base.specs.Rows.{bar_of, is_constrained}
use Rattle.hla_base.specs.Tables.{greatest}
use Rattle.hla_base.proofs.Tables.{greatest_ge}
use Rattle.hla_machine.proofs.Basics.Tests.{all_clear}
use Rattle.hla_accounts.specs.declared.account.Account.{Account}
use Rattle.hla_accounts.specs.Accounts.{account_at}
use Rattle.hla_accounts.specs.Calls.{is_below_wake_of, is_below_some_wake, IsEntryWithin}
use Rattle.hla_accounts.specs.RowChanges.{MayRegulateFrom}

pub greatest_none : (b : ℕ) (t : ℕ → ℕ) → b ≡ greatest 0 b t
unfolding greatest
greatest_none b t = refl

pub greatest_next : (n b : ℕ) (t : ℕ → ℕ) (x y z : ℕ) → x ≡ greatest n b t → y ≡ t n → z ≡ max x y → z ≡ greatest (n + 1) b t
unfolding greatest
greatest_next n b t x y z so_far here is =
    let next : n + 1 ≡ suc n = omega arith in
    rw next (let e : z ≡ max (t n) (greatest n b t) = rw (← so_far, ← here) (omega (arith, is)) in e)

module _ (accounts : List Account) (f e : ℕ) where
  some_decided : (n : ℕ) → Decides (is_below_some_wake accounts f e n) ((g : ℕ) × (g < n) × (is_below_wake_of accounts f e g ≡ true))
  unfolding is_below_some_wake
  some_decided n = Decides-below_or (is_below_wake_of accounts f e) (λ g. is_below_wake_of accounts f e g ≡ true) (is_below_some_wake accounts f e) (λ g. (λ t. t, λ t. t)) refl (λ _. refl) n

  pub some_found : (n g : ℕ) → g < n → is_below_wake_of accounts f e g ≡ true → is_below_some_wake accounts f e n ≡ true
  some_found n g less is = (some_decided n).1 (g, less, is)

  -- number 0 is nobody's
  pub none_found : (n : ℕ) → ((g : ℕ) → 1 ≤ g → g < n → is_below_wake_of accounts f e g ≡ false) → is_below_some_wake accounts f e n ≡ false
  none_found n none = by (is_below_some_wake accounts f e n) (some_decided n).0
    where
      broken : (g : ℕ) → g < n → is_below_wake_of accounts f e g ≡ true → ⊥
      broken zero less is = false≢true is
      broken (suc k) less is = false≢true (sym (none (suc k) (omega arith) less) ∙ is)

      by : (b : Bool) → (b ≡ true → (g : ℕ) × (g < n) × (is_below_wake_of accounts f e g ≡ true)) → b ≡ false
      by true h = absurd (let w = h refl in broken w.0 w.1 w.2)
      by false h = refl

-- ---- within the limits
pub entry_within : (accounts : List Account) (earliest e low : ℕ) → low ≡ greatest (length accounts + 1) earliest (λ g. bar_of (account_at accounts g).state) → ((x : ℕ) → earliest ≤ x → max_time + 1 ≤ x → low ≤ x) → low ≤ e →
    (e ≤ low) ⊎ (e ≤ max_time) → IsEntryWithin accounts earliest e
entry_within accounts earliest e low is bounded under over = record {
  above = let first = greatest_ge (length accounts + 1) earliest (λ g. bar_of (account_at accounts g).state) in omega (arith, first, is, under);
  low = λ x first bars. subst (λ y. y ≤ x) is (bounded x first bars);
  below = subst (λ y. (e ≤ y) ⊎ (e ≤ max_time)) is over;
}

or_first : (a b : Bool) → (a || b) ≡ false → a ≡ false
or_first true b e = absurd (cc)
or_first false b e = refl

-- a federate that may ask to regulate does so within the limits
pub record IsClear (r : TimeRow) (low t l : ℕ) : Type 0 where
  pub time : t ≤ max_time
  pub lookahead : l ≤ max_time
  pub start : is_constrained r ≡ false → l ≡ 0 → low ≢ max_time + 1
  pub few : r.enablings < max_enablings

pub clear_limits : (r : TimeRow) (low t l : ℕ) → first_fault (regulation_tests r low t l) ≡ None → IsClear r low t l
clear_limits r low t l none =
    let clear = all_clear (regulation_tests r low t l) none in
    let tests = clear.1.1.1 in
    record {
      time = ltb-false max_time t (or_first _ _ tests.0);
      lookahead = ltb-false max_time l tests.1.0;
      start = λ free nil at. late free nil at tests.1.1.0;
      few = enough (ltb r.enablings max_enablings) refl tests.1.1.1.0;
    }
  where
    late : is_constrained r ≡ false → l ≡ 0 → low ≡ max_time + 1 → (not (is_constrained r) && eqb l 0 && eqb low (max_time + 1)) ≡ false → ⊥
    late free nil at fine = let y = eq-eqb l 0 nil in let z = eq-eqb low (max_time + 1) at in let t = rw (free, y, z) at fine in absurd (cc)

    enough : (b : Bool) → ltb r.enablings max_enablings ≡ b → not b ≡ false → r.enablings < max_enablings
    enough true e fine = ltb-true r.enablings max_enablings e
    enough false e fine = absurd (cc)

abbrev lowest : List Account → ℕ → ℕ
lowest accounts earliest = greatest (length accounts + 1) earliest (λ g. bar_of (account_at accounts g).state)

pub entry_limits : (accounts : List Account) (r : TimeRow) (t l e : ℕ) → IsClear r (greatest (length accounts + 1) (t + l) (λ g. bar_of (account_at accounts g).state)) t l → IsEntryWithin accounts (t + l) e → MayRegulateFrom r l e
entry_limits accounts r t l e clear within = record {
  small = clear.lookahead;
  bounded = let top = within.low (2 * max_time) (omega (arith, clear.time, clear.lookahead)) (omega arith) in ⊎_elim (λ (b : e ≤ lowest accounts (t + l)). omega (arith, b, top)) (λ (b : e ≤ max_time). omega (arith, b)) within.below;
  above = omega (arith, within.above);
  start = λ free. ⊎_elim (λ (b : e ≤ lowest accounts (t + l)). plain free b (eqb l 0) refl) (λ (b : e ≤ max_time). omega (arith, b)) within.below;
  few = clear.few;
}
  where
    plain : is_constrained r ≡ false → e ≤ lowest accounts (t + l) → (b : Bool) → eqb l 0 ≡ b → e ≤ max_time + l
    plain free b true z =
        let nil : l ≡ 0 = eqb-true l 0 z in let ne = clear.start free nil in
        let top = within.low (max_time + 1) (omega (arith, clear.time, nil)) (omega arith) in omega (arith, b, ne, top, nil)
    plain free b false z =
        let some : 1 ≤ l = grind (arith, nat_tests) in
        let top = within.low (max_time + l) (omega (arith, clear.time)) (omega (arith, some)) in omega (arith, b, top)

-- Lists as tables by number, counted from 1
use Rattle.std.proofs.Common.{◌≡◌, ◌≢◌, ℕ, zero, suc, ◌+◌, ◌-◌, ◌<◌, ◌≤◌, List, [], ◌∷◌, ◌++◌, length, get_or, set, eqb, true, false, Bool, refl, sym, subst, ◌∙◌, arith, get_or-set_same, get_or-set_other, ne_eqb, slice_get, ⊎_elim}
use Rattle.std.proofs.Math.Dec.{eqb-suc-zero}
use Rattle.std.proofs.Math.ListN.{get_or-append, get_or-eq_default}
use Rattle.std.proofs.Math.Seq.{get_or-append_seam}
use Rattle.std.proofs.lemmas.Bool.{cases_Bool, cases_lt}
use Rattle.std.proofs.lemmas.Bool.Decides.{nat_tests}
use Rattle.std.proofs.lemmas.List.{length-append}
use Rattle.std.proofs.lemmas.Option.{unwrap_or-slice_get}
use Rattle.std.proofs.Math.Path.{fun_ext}
use Rattle.hla_base.specs.Tables.{upd, upd2}
use Rattle.hla_catalogue.specs.Lookup.{item_numbered}
use Rattle.hla_machine.specs.Registered.{item_at, is_in}

pub upd_same : {X : Type 0} (t : ℕ → X) (i : ℕ) (x : X) → upd t i x i ≡ x
unfolding upd
upd_same t i x = let e : eqb i i ≡ true = grind (arith, nat_tests) in rw e refl

pub upd_other : {X : Type 0} (t : ℕ → X) (i : ℕ) (x : X) (j : ℕ) → i ≢ j → upd t i x j ≡ t j
unfolding upd
upd_other t i x j ne = let e : eqb i j ≡ false = grind (arith, nat_tests) in rw e refl

pub upd2_row : {X : Type 0} (t : ℕ → ℕ → X) (i j : ℕ) (x : X) (l : ℕ) → upd2 t i j x i l ≡ upd (t i) j x l
unfolding upd upd2
upd2_row t i j x l = let e : eqb i i ≡ true = grind (arith, nat_tests) in rw e refl

pub upd2_other : {X : Type 0} (t : ℕ → ℕ → X) (i j : ℕ) (x : X) (k l : ℕ) → i ≢ k → upd2 t i j x k l ≡ t k l
unfolding upd2
upd2_other t i j x k l ne = let e : eqb i k ≡ false = grind (arith, nat_tests) in rw e refl

-- for each number: for one, and for the others
pub by_number : (f : ℕ) (P : ℕ → Type 0) → P f → ((g : ℕ) → f ≢ g → P g) → (g : ℕ) → P g
by_number f P here there g = ⊎_elim
    (λ (y : eqb f g ≡ true). let e : f ≡ g = grind (arith, nat_tests) in subst P e here)
    (λ (n : eqb f g ≡ false). there g (λ e. let y : eqb f g ≡ true = grind (arith, nat_tests) in cc))
    (cases_Bool (eqb f g))

pub item_numbered_within : {X : Type 0} (xs : List X) (n : ℕ) → n ≢ 0 → item_numbered xs n ≡ slice_get xs (n - 1)
item_numbered_within xs n ne = let e : eqb n 0 ≡ false = ne_eqb n 0 ne in rw e refl

pub item-suc : {X : Type 0} (d : X) (xs : List X) (k : ℕ) → item_at d xs (suc k) ≡ get_or xs k d
item-suc d xs k = let e : eqb (suc k) 0 ≡ false = eqb-suc-zero k in let m : suc k - 1 ≡ k = omega arith in rw (e, m) (unwrap_or-slice_get xs k d)

-- nothing has a number above the length
pub item-none : {X : Type 0} (d : X) (xs : List X) (n : ℕ) → length xs < n → item_at d xs n ≡ d
item-none d xs zero above = refl
item-none d xs (suc k) above = item-suc d xs k ∙ get_or-eq_default xs d (omega arith)

-- a list with another item is a table with another entry
pub item-set : {X : Type 0} (d : X) (xs : List X) (f : ℕ) (x : X) → 0 < f → f ≤ length xs → (g : ℕ) → item_at d (set xs (f - 1) x) g ≡ upd (item_at d xs) f x g
item-set d xs zero x some within g = absurd (omega arith)
item-set d xs (suc k) x some within zero = let ne : suc k ≢ zero = λ e. absurd (omega arith) in sym (upd_other (item_at d xs) (suc k) x zero ne)
item-set d xs (suc k) x some within (suc j) =
    let e : suc k - 1 ≡ k = omega arith in
    rw e (by_number k (λ j. item_at d (set xs k x) (suc j) ≡ upd (item_at d xs) (suc k) x (suc j))
    (item-suc d (set xs k x) k ∙ get_or-set_same xs k x d (omega arith) ∙ sym (upd_same (item_at d xs) (suc k) x))
    (λ j ne. let other : suc k ≢ suc j = λ e. ne (omega arith) in let back : j ≢ k = λ e. ne (sym e) in
    item-suc d (set xs k x) j ∙ get_or-set_other xs k j x d back ∙ sym (item-suc d xs j) ∙ sym (upd_other (item_at d xs) (suc k) x (suc j) other))
    j)

-- a list with one more item is a table with one more entry
pub item-append : {X : Type 0} (d : X) (xs : List X) (x : X) (g : ℕ) → item_at d (xs ++ x ∷ []) g ≡ upd (item_at d xs) (length xs + 1) x g
item-append d xs x = by_number (length xs + 1) (λ g. item_at d (xs ++ x ∷ []) g ≡ upd (item_at d xs) (length xs + 1) x g)
    (let e : length xs + 1 ≡ suc (length xs) = omega arith in
    subst (λ n. item_at d (xs ++ x ∷ []) n ≡ upd (item_at d xs) n x n) (sym e) (item-suc d (xs ++ x ∷ []) (length xs) ∙ get_or-append_seam xs x [] d ∙ sym (upd_same (item_at d xs) (suc (length xs)) x)))
    (λ g ne. others g ne ∙ sym (upd_other (item_at d xs) (length xs + 1) x g ne))
  where
    others : (g : ℕ) → length xs + 1 ≢ g → item_at d (xs ++ x ∷ []) g ≡ item_at d xs g
    others zero ne = refl
    others (suc k) ne = item-suc d (xs ++ x ∷ []) k ∙ ⊎_elim
        (λ (y : k < length xs). get_or-append xs (x ∷ []) d k y)
        (λ (n : length xs ≤ k). let above : length xs < k = omega arith in
        get_or-eq_default (xs ++ x ∷ []) d (omega (arith, length-append xs (x ∷ []))) ∙ sym (get_or-eq_default xs d n))
        (cases_lt k (length xs))
        ∙ sym (item-suc d xs k)

-- ---- sets of federates
pub is_in-nothing : (f : ℕ) → is_in [] f ≡ false
is_in-nothing zero = refl
is_in-nothing (suc k) = item-suc false [] k

pub is_in-set : (flags : List Bool) (f : ℕ) → 0 < f → f ≤ length flags → is_in (set flags (f - 1) true) ≡ upd (is_in flags) f true
is_in-set flags f some within = fun_ext (item-set false flags f true some within)

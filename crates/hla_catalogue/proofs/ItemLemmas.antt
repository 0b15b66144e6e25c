-- The items of a list by number, after a change
use Rattle.std.proofs.Common.{◌≡◌, ◌≢◌, ℕ, zero, suc, ◌-◌, ◌<◌, ◌≤◌, List, [], ◌∷◌, ◌==◌, length, set, false, Some, None, refl, sym, ◌∙◌, arith}
use Rattle.std.specs.List.{slice_get}
use Rattle.std.proofs.lemmas.Option.{slice_get_past}
use Rattle.std.proofs.lemmas.Bool.Decides.{nat_tests}
use Rattle.hla_catalogue.specs.Lookup.{item_numbered}

pub item_numbered-suc : {X : Type 0} (xs : List X) (k : ℕ) → item_numbered xs (suc k) ≡ slice_get xs k
item_numbered-suc xs k =
    let some : (suc k == 0) ≡ false = grind (arith, nat_tests) in
    let e : suc k - 1 ≡ k = omega arith in
    rw (some, e) refl

slice_get-set_same : {X : Type 0} (xs : List X) (k : ℕ) (x : X) → k < length xs → slice_get (set xs k x) k ≡ Some x
slice_get-set_same [] k x within = absurd (omega arith)
slice_get-set_same (y ∷ ys) zero x within = refl
slice_get-set_same (y ∷ ys) (suc k) x within = slice_get-set_same ys k x (omega arith)

slice_get-set_other : {X : Type 0} (xs : List X) (k j : ℕ) (x : X) → k ≢ j → slice_get (set xs k x) j ≡ slice_get xs j
slice_get-set_other [] k j x ne = refl
slice_get-set_other (y ∷ ys) zero zero x ne = absurd (ne refl)
slice_get-set_other (y ∷ ys) zero (suc j) x ne = refl
slice_get-set_other (y ∷ ys) (suc k) zero x ne = refl
slice_get-set_other (y ∷ ys) (suc k) (suc j) x ne = slice_get-set_other ys k j x (λ e. ne (omega arith))

-- the item that was put at a number, and the others
pub item_numbered-set_same : {X : Type 0} (xs : List X) (f : ℕ) (x : X) → 0 < f → f ≤ length xs → item_numbered (set xs (f - 1) x) f ≡ Some x
item_numbered-set_same xs zero x some within = absurd (omega arith)
item_numbered-set_same xs (suc k) x some within =
    let e : suc k - 1 ≡ k = omega arith in
    item_numbered-suc (set xs (suc k - 1) x) k ∙ rw e (slice_get-set_same xs k x (omega arith))

pub item_numbered-set_other : {X : Type 0} (xs : List X) (f g : ℕ) (x : X) → 0 < f → f ≢ g → item_numbered (set xs (f - 1) x) g ≡ item_numbered xs g
item_numbered-set_other xs f zero x some ne = refl
item_numbered-set_other xs f (suc j) x some ne =
    item_numbered-suc (set xs (f - 1) x) j ∙ slice_get-set_other xs (f - 1) j x (λ same. ne (omega arith)) ∙ sym (item_numbered-suc xs j)

pub item_numbered_past : {X : Type 0} (xs : List X) (f : ℕ) → length xs < f → item_numbered xs f ≡ None
item_numbered_past xs zero past = refl
item_numbered_past xs (suc k) past = item_numbered-suc xs k ∙ slice_get_past xs k (omega arith)

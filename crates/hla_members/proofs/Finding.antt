-- What is found is there
use Rattle.std.proofs.Common.{◌≡◌, ⊎_elim, Bool, true, false, Some, None, List, [], ◌∷◌, find, refl, ℕ, zero, suc, ◌+◌, ◌<◌, ◌≤◌, length, get_or, map, take, ap, ◌∙◌, arith}
use Rattle.std.specs.List.{list_any}
use Rattle.std.proofs.lemmas.Bool.{cases_Bool}
use Rattle.std.proofs.lemmas.List.{take_more}
use Rattle.std.proofs.lemmas.List.Folds.{list_any-append}
use Rattle.std.proofs.Math.Seq.{take-length}
use Rattle.hla_base.specs.Tables.{numbers_below}
use Rattle.hla_execution.specs.MemberValue.{item}

pub any_found : {X : Type 0} (p : X → Bool) (xs : List X) (x : X) → find p xs ≡ Some x → list_any p xs ≡ true
any_found p [] x e = absurd (cc)
any_found p (y ∷ ys) x e = ⊎_elim
    (λ (t : p y ≡ true). rw t refl)
    (λ (n : p y ≡ false). let rest : find p ys ≡ Some x = rw n at e in rw (n, any_found p ys x rest) refl)
    (cases_Bool (p y))

pub none_found : {X : Type 0} (p : X → Bool) (xs : List X) → find p xs ≡ None → list_any p xs ≡ false
none_found p [] e = refl
none_found p (y ∷ ys) e = ⊎_elim
    (λ (t : p y ≡ true). let found = rw t at e in absurd (cc))
    (λ (n : p y ≡ false). let rest : find p ys ≡ None = rw n at e in rw (n, none_found p ys rest) refl)
    (cases_Bool (p y))

-- ---- What is asked of some member is asked of some number
module _ {X : Type 0} (d : X) (xs : List X) (asked : X → Bool) (no : asked d ≡ false) where
  any_below : (k : ℕ) → k ≤ length xs → list_any (λ f. asked (item d xs f)) (numbers_below (suc k)) ≡ list_any asked (take k xs)
  unfolding numbers_below
  any_below zero b = rw no refl
  any_below (suc k) b =
      let within : k < length xs = omega (arith, b) in
      let one : suc k ≡ k + 1 = omega arith in
      list_any-append (λ f. asked (item d xs f)) (numbers_below (suc k)) (suc k ∷ [])
      ∙ rw (any_below k (omega (arith, b)), one, take_more xs k d within, list_any-append asked (take k xs) (get_or xs k d ∷ [])) refl

  pub any_member : list_any (λ f. asked (item d xs f)) (numbers_below (length xs + 1)) ≡ list_any asked xs
  any_member =
      let one : length xs + 1 ≡ suc (length xs) = omega arith in
      ap (λ (n : ℕ). list_any (λ f. asked (item d xs f)) (numbers_below n)) one ∙ any_below (length xs) (omega arith) ∙ ap (list_any asked) (take-length xs)

pub any_map : {X Y : Type 0} (p : X → Y) (asked : Y → Bool) (xs : List X) → list_any asked (map p xs) ≡ list_any (λ x. asked (p x)) xs
any_map p asked [] = refl
any_map p asked (x ∷ xs) = rw (any_map p asked xs) refl

-- Equality of lists and options, where `==` of their items tells items apart
use Rattle.std.specs.Prelude.{◌≡◌, Bool, true, false, ◌&&◌, ◌⊎◌, List, [], ◌∷◌, Option, None, Some, refl}
use Rattle.std.specs.Cmp.Lexicographic.{pointwise}
use Rattle.std.specs.Option.{option_eq}
use Rattle.std.proofs.Common.{inl, inr, ap}
use Rattle.std.proofs.lemmas.Bool.{and_left, and_right}

pub lists_exact : {X : Type 0} {E : X → X → Bool} → ((x y : X) → (E x y ≡ false) ⊎ (x ≡ y)) → (xs ys : List X) → (pointwise E xs ys ≡ false) ⊎ (xs ≡ ys)
lists_exact exact [] [] = inr refl
lists_exact exact [] (y ∷ ys) = inl refl
lists_exact exact (x ∷ xs) [] = inl refl
lists_exact exact (x ∷ xs) (y ∷ ys) = elim (exact x y) [
  | inl apart ↦ inl (and_left _ _ apart)
  | inr head ↦ elim (lists_exact exact xs ys) [
    | inl apart ↦ inl (and_right _ _ apart)
    | inr tail ↦ inr (λ i. head i ∷ tail i)
  ]
]

pub options_exact : {X : Type 0} {E : X → X → Bool} → ((x y : X) → (E x y ≡ false) ⊎ (x ≡ y)) → (x y : Option X) → (option_eq E x y ≡ false) ⊎ (x ≡ y)
options_exact exact None None = inr refl
options_exact exact None (Some y) = inl refl
options_exact exact (Some x) None = inl refl
options_exact exact (Some x) (Some y) = elim (exact x y) [
  | inl apart ↦ inl apart
  | inr same ↦ inr (ap Some same)
]

-- Which values of an update are shown, by the first that is not
use Rattle.std.proofs.Common.{◌≡◌, ℕ, ◌<◌, ◌≤◌, List, [], ◌∷◌, length, get_or, filter, Bool, true, false, not, Some, None, refl, sym, ap, ◌∙◌, arith, ⊎_elim}
use Rattle.std.proofs.lemmas.Bool.{cases_Bool, not-false, not-true}
use Rattle.std.proofs.lemmas.Grind.{common_steps}
use Rattle.std.proofs.lemmas.List.Quantifiers.{position-Some}
use Rattle.std.specs.List.{position, position_or_len}

-- those before it are shown
pub shown_before : {X : Type 0} (p : X → Bool) (xs : List X) (i k : ℕ) (d : X) → position (λ x. not (p x)) xs ≡ Some i → k < i → p (get_or xs k d) ≡ true
shown_before p xs i k d e less = not-false _ ((position-Some (λ x. not (p x)) xs i d e).2 k less)

-- it is not
pub hidden_there : {X : Type 0} (p : X → Bool) (xs : List X) (i k : ℕ) (d : X) → position (λ x. not (p x)) xs ≡ Some i → k ≡ i → p (get_or xs k d) ≡ false
hidden_there p xs i k d e same =
    ap (λ n. p (get_or xs n d)) same ∙ not-true _ (position-Some (λ x. not (p x)) xs i d e).1

shown_up_to : {X : Type 0} (p : X → Bool) (xs : List X) → length xs ≤ position_or_len (λ x. not (p x)) xs → filter p xs ≡ xs
shown_up_to p [] all = refl
shown_up_to p (x ∷ xs) all = ⊎_elim
    (λ (y : p x ≡ true).
    let rest : length xs ≤ position_or_len (λ x. not (p x)) xs = let le = rw y at all in omega arith in
    rw y (ap (λ ys. x ∷ ys) (shown_up_to p xs rest)))
    (λ (n : p x ≡ false).
    let none = rw n at all in
    absurd (omega arith))
    (cases_Bool (p x))

-- where none is hidden, all are shown
pub all_shown : {X : Type 0} (p : X → Bool) (xs : List X) → position (λ x. not (p x)) xs ≡ None → filter p xs ≡ xs
all_shown p xs e = shown_up_to p xs (grind (arith, common_steps))

-- the only one that is hidden is not shown
pub only_hidden : {X : Type 0} (p : X → Bool) (xs : List X) (i : ℕ) → position (λ x. not (p x)) xs ≡ Some i → length xs ≡ 1 → filter p xs ≡ []
only_hidden p [] i e one = absurd (omega arith)
only_hidden p (x ∷ (y ∷ ys)) i e one = absurd (omega arith)
only_hidden p (x ∷ []) i e one =
    let at = position-Some (λ x. not (p x)) (x ∷ []) i x e in
    let within : i ≡ 0 = let less = at.0 in omega arith in
    let hidden : p x ≡ false = ap (λ k. p (get_or (x ∷ []) k x)) (sym within) ∙ not-true _ at.1 in
    rw hidden refl

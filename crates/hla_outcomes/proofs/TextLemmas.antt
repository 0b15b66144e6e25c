-- One more line of a text.
use Rattle.std.proofs.Common.{◌≡◌, ℕ, ◌+◌, ◌<◌, ◌≤◌, List, [], ◌∷◌, ◌++◌, length, take, get_or, sym, ap, ◌∙◌, arith}
use Rattle.std.proofs.lemmas.List.{take_more, take_all, flat_map_more}
use Rattle.std.proofs.lemmas.List.FromFn.{length-enumerate_from, get_or-enumerate_from}
use Rattle.std.specs.List.{flat_map, enumerate_from}

-- the item at an index, with its place
placed_is : {X : Type 0} (xs : List X) (i : ℕ) (x : X) → i < length xs → x ≡ get_or xs i x → get_or (enumerate_from 0 xs) i (0, x) ≡ (i, x)
placed_is {X = X} xs i x lt is =
    let same : 0 + i ≡ i = omega arith in
    get_or-enumerate_from 0 xs i (0, x) lt ∙ ap (λ (n : ℕ). let p : ℕ × X = (n, get_or xs i x) in p) same ∙ ap (λ (y : X). let p : ℕ × X = (i, y) in p) (sym is)

-- the texts up to a place, and the next
pub one_more : {X : Type 0} (text : ℕ → X → List ℕ) (bs : List ℕ) (xs : List X) (i : ℕ) (x : X) → i < length xs → x ≡ get_or xs i x
    → (bs ++ flat_map (λ p. text p.0 p.1) (take i (enumerate_from 0 xs))) ++ text i x ≡ bs ++ flat_map (λ p. text p.0 p.1) (take (i + 1) (enumerate_from 0 xs))
one_more {X = X} text bs xs i x lt is =
    let es = enumerate_from 0 xs in
    let within : i < length es = omega (arith, length-enumerate_from 0 xs) in
    let longer : take (i + 1) es ≡ take i es ++ (i, x) ∷ [] = take_more es i (0, x) within ∙ ap (λ (p : ℕ × X). take i es ++ p ∷ []) (placed_is xs i x lt is) in
    flat_map_more (λ (p : ℕ × X). text p.0 p.1) bs (take i es) (i, x) ∙ ap (λ (ys : List (ℕ × X)). bs ++ flat_map (λ p. text p.0 p.1) ys) (sym longer)

-- the texts of all
pub all_of : {X : Type 0} (text : ℕ → X → List ℕ) (bs : List ℕ) (xs : List X) (i : ℕ) → length xs ≤ i
    → bs ++ flat_map (λ p. text p.0 p.1) (take i (enumerate_from 0 xs)) ≡ bs ++ flat_map (λ p. text p.0 p.1) (enumerate_from 0 xs)
all_of {X = X} text bs xs i h =
    let es = enumerate_from 0 xs in
    let whole : length es ≤ i = omega (arith, length-enumerate_from 0 xs) in
    ap (λ (ys : List (ℕ × X)). bs ++ flat_map (λ p. text p.0 p.1) ys) (take_all i es whole)

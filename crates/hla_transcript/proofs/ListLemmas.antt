-- One more item of a list.
use Rattle.std.proofs.Common.{◌≡◌, ◌==◌, if◌then◌else◌, eq-eqb, ℕ, zero, suc, set, subst, inl, inr, length-append, append_assoc, ◌+◌, ◌<◌, ◌≤◌, List, [], ◌∷◌, ◌++◌, length, take, get_or, refl, sym, ap, ◌∙◌, arith, add_comm}
use Rattle.std.proofs.lemmas.List.{take_more, take_all, append-nil, flat_map_more, length-set, get_or-set_same, get_or-set_other}
use Rattle.std.proofs.lemmas.Grind.{common_steps}
use Rattle.std.proofs.lemmas.Bool.{cases_eq}
use Rattle.std.proofs.lemmas.Bool.Decides.{nat_tests}
use Rattle.std.proofs.lemmas.List.FromFn.{length-enumerate_from, get_or-enumerate_from}
use Rattle.std.specs.List.{flat_map, enumerate_from}
use Rattle.hla_transcript.specs.Listed.{numbered_texts, AreEmpty, EachGrows, AreOwn}

-- the item at an index, with its number
numbered_is : {X : Type 0} (xs : List X) (i : ℕ) (x : X) → i < length xs → x ≡ get_or xs i x → get_or (enumerate_from 1 xs) i (0, x) ≡ (i + 1, x)
numbered_is {X = X} xs i x lt is =
    get_or-enumerate_from 1 xs i (0, x) lt ∙ ap (λ (n : ℕ). let p : ℕ × X = (n, get_or xs i x) in p) (add_comm 1 i) ∙ ap (λ (y : X). let p : ℕ × X = (i + 1, y) in p) (sym is)

-- the texts up to an index, and the next
pub one_more : {X : Type 0} (text : ℕ → X → List ℕ) (bs : List ℕ) (xs : List X) (i : ℕ) (x : X) → i < length xs → x ≡ get_or xs i x
    → (bs ++ flat_map (λ p. text p.0 p.1) (take i (enumerate_from 1 xs))) ++ text (i + 1) x ≡ bs ++ flat_map (λ p. text p.0 p.1) (take (i + 1) (enumerate_from 1 xs))
one_more {X = X} text bs xs i x lt is =
    let es = enumerate_from 1 xs in
    let within : i < length es = omega (arith, length-enumerate_from 1 xs) in
    let longer : take (i + 1) es ≡ take i es ++ (i + 1, x) ∷ [] = take_more es i (0, x) within ∙ ap (λ (p : ℕ × X). take i es ++ p ∷ []) (numbered_is xs i x lt is) in
    flat_map_more (λ (p : ℕ × X). text p.0 p.1) bs (take i es) (i + 1, x) ∙ ap (λ (ys : List (ℕ × X)). bs ++ flat_map (λ p. text p.0 p.1) ys) (sym longer)

-- the texts of all
pub all_of : {X : Type 0} (text : ℕ → X → List ℕ) (bs : List ℕ) (xs : List X) (i : ℕ) → length xs ≤ i
    → bs ++ flat_map (λ p. text p.0 p.1) (take i (enumerate_from 1 xs)) ≡ bs ++ numbered_texts text xs
all_of {X = X} text bs xs i h =
    let es = enumerate_from 1 xs in
    let whole : length es ≤ i = omega (arith, length-enumerate_from 1 xs) in
    ap (λ (ys : List (ℕ × X)). bs ++ flat_map (λ p. text p.0 p.1) ys) (take_all i es whole)

-- the line of what the class declares itself
pub shown_line : (a b : ℕ) (line : List ℕ) → a ≡ b → line ≡ (if a == b then line else [])
shown_line a b line h = rw (eq-eqb a b h) refl

-- nothing of what another class declares
pub hidden_line : (a b : ℕ) (line text : List ℕ) → (a ≡ b → ⊥) → text ≡ text ++ (if a == b then line else [])
hidden_line a b line text h = grind (arith, common_steps, nat_tests, append-nil text)

-- one more empty text
pub empty_more : (n : ℕ) (texts : List (List ℕ)) → AreEmpty n texts → AreEmpty (n + 1) (texts ++ [] ∷ [])
empty_more n texts h = record { many = omega (arith, h.many, length-append texts ([] ∷ [])); empty = longer texts h.empty }
  where
    longer : (all : List (List ℕ)) → ((k : ℕ) → get_or all k [] ≡ []) → (k : ℕ) → get_or (all ++ [] ∷ []) k [] ≡ []
    longer [] all_empty zero = refl
    longer [] all_empty (suc k) = refl
    longer (x ∷ xs) all_empty zero = all_empty 0
    longer (x ∷ xs) all_empty (suc k) = longer xs (λ j. all_empty (suc j)) k

-- the texts of the items up to an index, and the next
pub made_more : {X : Type 0} (own : ℕ → ℕ → X → List ℕ) (classes : ℕ) (old new : List (List ℕ)) (xs : List X) (i : ℕ) (x : X) → i < length xs → x ≡ get_or xs i x → length old ≡ classes + 1
    → ((class : ℕ) → class ≤ classes → get_or old class [] ≡ flat_map (λ p. own class p.0 p.1) (take i (enumerate_from 1 xs))) → EachGrows (λ class. own class (i + 1) x) old new
    → (class : ℕ) → class ≤ classes → get_or new class [] ≡ flat_map (λ p. own class p.0 p.1) (take (i + 1) (enumerate_from 1 xs))
made_more own classes old new xs i x lt is many made grown class within =
    grown.grows class (omega arith) ∙ ap (λ (bs : List ℕ). bs ++ own class (i + 1) x) (made class within) ∙ one_more (own class) [] xs i x lt is

-- the texts of all items
pub made_all : {X : Type 0} (own : ℕ → ℕ → X → List ℕ) (classes : ℕ) (texts : List (List ℕ)) (xs : List X) (i : ℕ) → length xs ≤ i → length texts ≡ classes + 1
    → ((class : ℕ) → class ≤ classes → get_or texts class [] ≡ flat_map (λ p. own class p.0 p.1) (take i (enumerate_from 1 xs))) → AreOwn own classes xs texts
made_all own classes texts xs i h many made = record { many = many; whole = λ class within. made class within ∙ all_of (own class) [] xs i h }

-- the text at a place grows
pub grows_at : (texts : List (List ℕ)) (at : ℕ) (given : ℕ → List ℕ) (text : List ℕ) → at < length texts → text ≡ get_or texts at [] ++ given at → ((k : ℕ) → (k ≡ at → ⊥) → given k ≡ []) → EachGrows given texts (set texts at text)
grows_at texts at given text within e others = record {
  many = length-set texts at text;
  grows = λ k inside. elim (cases_eq at k) [
    | inl same ↦ subst (λ j. get_or (set texts at text) j [] ≡ get_or texts j [] ++ given j) same (get_or-set_same texts at text [] within ∙ e)
    | inr other ↦ get_or-set_other texts at k text [] (λ f. other (sym f)) ∙ sym (append-nil _) ∙ ap (λ (t : List ℕ). get_or texts k [] ++ t) (sym (others k (λ f. other (sym f))))
  ];
}

-- no text grows where no place is that of the class
pub grows_nowhere : (texts : List (List ℕ)) (given : ℕ → List ℕ) → ((k : ℕ) → k < length texts → given k ≡ []) → EachGrows given texts texts
grows_nowhere texts given none = record { many = refl; grows = λ k inside. sym (append-nil _) ∙ ap (λ (t : List ℕ). get_or texts k [] ++ t) (sym (none k inside)) }

-- what another class declares is not shown
pub not_shown : (a b : ℕ) (line : List ℕ) → (a ≡ b → ⊥) → (if a == b then line else []) ≡ []
not_shown a b line h = grind (arith, common_steps, nat_tests)

-- a line and what stands behind it
pub line_and_own : (before line own own' with_line with_own : List ℕ) → with_line ≡ before ++ line → with_own ≡ with_line ++ own → own ≡ own' → with_own ≡ before ++ (line ++ own')
line_and_own before line own own' with_line with_own e f same = f ∙ ap (λ (t : List ℕ). t ++ own) e ∙ append_assoc before line own ∙ ap (λ (t : List ℕ). before ++ (line ++ t)) same

-- Tables by number, as functions, and the least and the greatest of their entries
use Rattle.std.specs.Prelude.{ℕ, zero, suc, min, max, cond, eqb, not, ◌&&◌, Bool, Option, Some, None, List, [], ◌∷◌, ◌++◌}
pub use Rattle.hla_base.specs.Limits.{forever, max_time}

-- the table with x at i
unfoldable pub upd : {X : Type 0} → (ℕ → X) → ℕ → X → ℕ → X
upd t i x = λ j. cond (eqb i j) x (t j)

-- the table of pairs with x at (i, j)
unfoldable pub upd2 : {X : Type 0} → (ℕ → ℕ → X) → ℕ → ℕ → X → ℕ → ℕ → X
upd2 t i j x = λ k l. cond (eqb i k && eqb j l) x (t k l)

-- is l a member other than i
abbrev pub is_other : (ℕ → Bool) → ℕ → ℕ → Bool
is_other members i l = not (eqb i l) && members l

-- the table of pairs with f l of what was there at (i, l), for each other member l
unfoldable pub upd_row : {X : Type 0} → (ℕ → ℕ → X) → (ℕ → Bool) → ℕ → (ℕ → X → X) → ℕ → ℕ → X
upd_row t members i f = λ k l. cond (eqb i k && is_other members i l) (f l (t k l)) (t k l)

-- likewise at (l, i)
unfoldable pub upd_column : {X : Type 0} → (ℕ → ℕ → X) → (ℕ → Bool) → ℕ → (X → X) → ℕ → ℕ → X
upd_column t members i f = λ l k. cond (eqb i k && is_other members i l) (f (t l k)) (t l k)

-- the table with here g at each (i, g), and there g at each other (g, i)
unfoldable pub upd_new : {X : Type 0} → (ℕ → ℕ → X) → ℕ → (ℕ → X) → (ℕ → X) → ℕ → ℕ → X
upd_new t i here there = λ k l. cond (eqb i k) (here l) (cond (eqb i l) (there k) (t k l))

-- the table with x at each (g, i)
unfoldable pub upd_whole_column : {X : Type 0} → (ℕ → ℕ → X) → ℕ → X → ℕ → ℕ → X
upd_whole_column t i x = λ k l. cond (eqb i l) x (t k l)

-- the least of the first n entries, and forever where there are none
unfoldable pub least : ℕ → (ℕ → ℕ) → ℕ
least zero t = forever
least (suc n) t = min (t n) (least n t)

-- the greatest of the first n entries and b
unfoldable pub greatest : ℕ → ℕ → (ℕ → ℕ) → ℕ
greatest zero b t = b
greatest (suc n) b t = max (t n) (greatest n b t)

-- the numbers below n, rising
unfoldable pub numbers_below : ℕ → List ℕ
numbers_below zero = []
numbers_below (suc n) = numbers_below n ++ n ∷ []

-- the first that is there
abbrev pub or_else : {X : Type 0} → Option X → Option X → Option X
or_else (Some x) o = Some x
or_else None o = o

-- what is there, where the test holds
abbrev pub when : {X : Type 0} → Bool → Option X → Option X
when b o = cond b o None

abbrev pub one_if : Bool → ℕ
one_if b = cond b 1 0

-- A queue in order begins with the events that move
use Rattle.std.proofs.Common.{◌≡◌, ℕ, zero, suc, ◌+◌, ◌≤◌, ◌<◌, Some, None, Bool, true, false, cond, ltb, not, List, [], ◌∷◌, ◌++◌, take, drop, filter, refl, sym, ap, ◌∙◌, arith}
use Rattle.std.proofs.lemmas.Bool.Decides.{nat_tests}
use Rattle.std.specs.List.{AllByRecursion, prefix_len, slice_get}
use Rattle.hla_base.specs.declared.content.Event.{Event}
use Rattle.hla_base.specs.Tables.{forever}
use Rattle.hla_order_queues.specs.Moving.{is_moved, IsRising}

-- none moves behind one that stays
unmoved_behind : (bound : ℕ) (x y : Event) → is_moved bound x ≡ false → x.stamp ≤ y.stamp → is_moved bound y ≡ false
unmoved_behind bound x y h low = grind (arith, nat_tests)

none_moves : (bound : ℕ) (x : Event) (xs : List Event) → is_moved bound x ≡ false → AllByRecursion (λ y. x.stamp ≤ y.stamp) xs → (filter (is_moved bound) xs ≡ []) × (filter (λ e. not (is_moved bound e)) xs ≡ xs)
none_moves bound x [] h all = (refl, refl)
none_moves bound x (y ∷ ys) h all =
    let later = none_moves bound x ys h all.1 in
    let here = unmoved_behind bound x y h all.0 in
    (rw here later.0, rw here (ap (λ zs. y ∷ zs) later.1))

first_if : (b : Bool) (x : Event) (xs moved left : List Event) (n : ℕ) → (b ≡ false → (moved ≡ []) × (left ≡ xs)) → (take n xs ≡ moved) × (drop n xs ≡ left) → (take (cond b (1 + n) 0) (x ∷ xs) ≡ cond b (x ∷ moved) moved) × (drop (cond b (1 + n) 0) (x ∷ xs) ≡ cond (not b) (x ∷ left) left)
first_if true x xs moved left n none later = let s : 1 + n ≡ suc n = omega arith in rw s (ap (λ zs. x ∷ zs) later.0, later.1)
first_if false x xs moved left n none later = (sym (none refl).0, ap (λ zs. x ∷ zs) (sym (none refl).1))

pub moved_first : (bound : ℕ) (xs : List Event) → IsRising xs → (take (prefix_len (is_moved bound) xs) xs ≡ filter (is_moved bound) xs) × (drop (prefix_len (is_moved bound) xs) xs ≡ filter (λ e. not (is_moved bound e)) xs)
unfolding IsRising
moved_first bound [] h = (refl, refl)
moved_first bound (x ∷ xs) h = first_if (is_moved bound x) x xs _ _ _ (λ b. none_moves bound x xs b h.0) (moved_first bound xs h.1)

-- one more is taken from the front
pub one_more : (xs : List Event) (i : ℕ) (e : Event) → Some e ≡ slice_get (drop i xs) 0 → take (i + 1) xs ≡ take i xs ++ e ∷ []
one_more [] zero e h = absurd (cc)
one_more [] (suc i) e h = absurd (cc)
one_more (x ∷ xs) zero e h = let same : x ≡ e = cc in rw same refl
one_more (x ∷ xs) (suc i) e h = let s : suc i + 1 ≡ suc (i + 1) = omega arith in rw s (ap (λ zs. x ∷ zs) (one_more xs i e h))

pub no_more : (xs : List Event) (i : ℕ) → None ≡ slice_get (drop i xs) 0 → take (i + 1) xs ≡ take i xs
no_more [] zero h = refl
no_more [] (suc i) h = let s : suc i + 1 ≡ suc (i + 1) = omega arith in rw s refl
no_more (x ∷ xs) zero h = absurd (cc)
no_more (x ∷ xs) (suc i) h = let s : suc i + 1 ≡ suc (i + 1) = omega arith in rw s (ap (λ zs. x ∷ zs) (no_more xs i h))

pub drop-one : (xs : List Event) (i : ℕ) → drop 1 (drop i xs) ≡ drop (i + 1) xs
drop-one [] zero = refl
drop-one [] (suc i) = let s : suc i + 1 ≡ suc (i + 1) = omega arith in rw s refl
drop-one (x ∷ xs) zero = refl
drop-one (x ∷ xs) (suc i) = let s : suc i + 1 ≡ suc (i + 1) = omega arith in rw s (drop-one xs i)

filter_same : (p q : Event → Bool) → ((e : Event) → p e ≡ q e) → (xs : List Event) → filter p xs ≡ filter q xs
filter_same p q same [] = refl
filter_same p q same (x ∷ xs) = rw (same x, filter_same p q same xs)

filter_all : (p : Event → Bool) → ((e : Event) → p e ≡ true) → (xs : List Event) → filter p xs ≡ xs
filter_all p all [] = refl
filter_all p all (x ∷ xs) = rw (all x, filter_all p all xs)

filter_none : (p : Event → Bool) → ((e : Event) → p e ≡ false) → (xs : List Event) → filter p xs ≡ []
filter_none p none [] = refl
filter_none p none (x ∷ xs) = rw (none x, filter_none p none xs)

below : (bound : ℕ) (e : Event) → bound < forever → is_moved bound e ≡ ltb e.stamp bound
below bound e h = grind (arith, nat_tests)

every : (bound : ℕ) (e : Event) → bound ≡ forever → is_moved bound e ≡ true
every bound e h = grind (arith, nat_tests)

-- what was counted is what moves
pub below_moved : (bound n : ℕ) (xs : List Event) → IsRising xs → n ≡ prefix_len (is_moved bound) xs → bound < forever → (take n xs ≡ filter (λ e. ltb e.stamp bound) xs) × (drop n xs ≡ filter (λ e. not (ltb e.stamp bound)) xs)
below_moved bound n xs h is low =
    let first = moved_first bound xs h in (
      ap (λ k. take k xs) is ∙ first.0 ∙ filter_same _ _ (λ e. below bound e low) xs,
      ap (λ k. drop k xs) is ∙ first.1 ∙ filter_same _ _ (λ e. ap not (below bound e low)) xs,
    )

pub all_moved : (bound n : ℕ) (xs : List Event) → IsRising xs → n ≡ prefix_len (is_moved bound) xs → bound ≡ forever → (take n xs ≡ xs) × (drop n xs ≡ [])
all_moved bound n xs h is all =
    let first = moved_first bound xs h in (
      ap (λ k. take k xs) is ∙ first.0 ∙ filter_all _ (λ e. every bound e all) xs,
      ap (λ k. drop k xs) is ∙ first.1 ∙ filter_none _ (λ e. ap not (every bound e all)) xs,
    )

-- Tests of the numbers below a bound
use Rattle.std.proofs.Common.{◌≡◌, ◌≢◌, ℕ, zero, suc, ◌+◌, ◌<◌, [], ◌∷◌, ◌++◌, cond, ◌||◌, true, false, Bool, Some, None, refl, sym, ap, subst, ◌∙◌, arith, add-one, ⊎_elim, true≢false}
use Rattle.std.specs.List.{find, list_any, filter}
use Rattle.std.specs.Option.{option_or}
use Rattle.std.proofs.lemmas.Bool.{cases_Bool, cases_eq}
use Rattle.std.proofs.lemmas.List.Folds.{find-append, list_any-append}
use Rattle.std.proofs.lemmas.List.Elements.{filter-append}
use Rattle.std.proofs.lemmas.List.{append-nil}
use Rattle.hla_base.specs.Tables.{numbers_below}

none_below : (p : ℕ → Bool) (n : ℕ) → ((j : ℕ) → j < suc n → p j ≡ false) → (j : ℕ) → j < n → p j ≡ false
none_below p n none j below = none j (omega arith)

pub any_none : (p : ℕ → Bool) (n : ℕ) → ((j : ℕ) → j < n → p j ≡ false) → list_any p (numbers_below n) ≡ false
unfolding numbers_below
any_none p zero none = refl
any_none p (suc n) none =
    let here : p n ≡ false = none n (omega arith) in
    list_any-append p (numbers_below n) (n ∷ []) ∙ (λ i. any_none p n (none_below p n none) i || (here i || false))

any_either : (a b : Bool) → (a ≡ true) → (a || b) ≡ true
any_either true b h = refl
any_either false b h = absurd (true≢false (sym h))

any_second : (a b : Bool) → (b ≡ true) → (a || (b || false)) ≡ true
any_second true b h = refl
any_second false true h = refl
any_second false false h = absurd (true≢false (sym h))

pub any_at : (p : ℕ → Bool) (n h : ℕ) → p h ≡ true → h < n → list_any p (numbers_below n) ≡ true
unfolding numbers_below
any_at p zero h passes below = absurd (omega arith)
any_at p (suc n) h passes below = list_any-append p (numbers_below n) (n ∷ []) ∙ ⊎_elim
    (λ (e : h ≡ n). any_second (list_any p (numbers_below n)) (p n) (subst (λ k. p k ≡ true) e passes))
    (λ (ne : h ≢ n). let less : h < n = omega arith in any_either (list_any p (numbers_below n)) (p n || false) (any_at p n h passes less))
    (cases_eq h n)

pub any_each : (p : ℕ → Bool) (n : ℕ) → list_any p (numbers_below n) ≡ false → (j : ℕ) → j < n → p j ≡ false
any_each p n none j below = ⊎_elim
    (λ (y : p j ≡ true). absurd (true≢false (sym (any_at p n j y below) ∙ none)))
    (λ (e : p j ≡ false). e)
    (cases_Bool (p j))

pub find_none : (p : ℕ → Bool) (n : ℕ) → ((j : ℕ) → j < n → p j ≡ false) → find p (numbers_below n) ≡ None
unfolding numbers_below
find_none p zero none = refl
find_none p (suc n) none =
    let here : p n ≡ false = none n (omega arith) in
    find-append p (numbers_below n) (n ∷ []) ∙ (λ i. option_or (find_none p n (none_below p n none) i) (cond (here i) (Some n) None))

-- the one number that passes is found
pub find_only : (p : ℕ → Bool) (n h : ℕ) → p h ≡ true → h < n → ((j : ℕ) → j < n → p j ≡ true → j ≡ h) → find p (numbers_below n) ≡ Some h
unfolding numbers_below
find_only p zero h passes below only = absurd (omega arith)
find_only p (suc n) h passes below only = find-append p (numbers_below n) (n ∷ []) ∙ ⊎_elim
    (λ (e : h ≡ n).
    let here : p n ≡ true = subst (λ k. p k ≡ true) e passes in
    let before = find_none p n (λ j l. ⊎_elim
    (λ (y : p j ≡ true). let same : j ≡ h = only j (omega arith) y in absurd (omega arith))
    (λ (fails : p j ≡ false). fails)
    (cases_Bool (p j))) in
    (λ i. option_or (before i) (cond (here i) (Some n) None)) ∙ ap (λ (k : ℕ). Some k) (sym e))
    (λ (ne : h ≢ n).
    let less : h < n = omega arith in
    ap (λ o. option_or o (cond (p n) (Some n) None)) (find_only p n h passes less (λ j l y. only j (omega arith) y)))
    (cases_eq h n)

more : (n : ℕ) → numbers_below (n + 1) ≡ numbers_below n ++ n ∷ []
unfolding numbers_below
more n = rw add-one refl

-- one more number that passes, or does not
pub filter_more : (p : ℕ → Bool) (n : ℕ) → p n ≡ true → filter p (numbers_below (n + 1)) ≡ filter p (numbers_below n) ++ n ∷ []
filter_more p n passes =
    let next : numbers_below (n + 1) ≡ numbers_below n ++ n ∷ [] = more n in
    ap (filter p) next ∙ filter-append p (numbers_below n) (n ∷ []) ∙ ap (λ b. filter p (numbers_below n) ++ cond b (n ∷ []) []) passes

pub filter_same : (p : ℕ → Bool) (n : ℕ) → p n ≡ false → filter p (numbers_below (n + 1)) ≡ filter p (numbers_below n)
filter_same p n fails =
    let next : numbers_below (n + 1) ≡ numbers_below n ++ n ∷ [] = more n in
    ap (filter p) next ∙ filter-append p (numbers_below n) (n ∷ []) ∙ ap (λ b. filter p (numbers_below n) ++ cond b (n ∷ []) []) fails ∙ append-nil (filter p (numbers_below n))

pub filter_first : (p : ℕ → Bool) → p 0 ≡ false → filter p (numbers_below 1) ≡ []
unfolding numbers_below
filter_first p fails = ap (λ b. cond b (0 ∷ []) []) fails

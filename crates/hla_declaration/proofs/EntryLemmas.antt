-- The entries of a list after a change
use Rattle.std.proofs.Common.{◌≡◌, ◌≢◌, ℕ, zero, suc, ◌+◌, ◌-◌, ◌<◌, ◌≤◌, List, [], ◌∷◌, ◌++◌, length, get_or, set, eqb, cond, true, false, Some, refl, sym, ◌∙◌, arith, ⊎_elim, replicate}
use Rattle.std.specs.List.{slice_get}
use Rattle.std.proofs.lemmas.Option.{slice_get-get_or, slice_get_past, slice_get_read}
use Rattle.std.proofs.lemmas.List.{get_or-replicate, get_or_past, length-replicate}
use Rattle.std.proofs.lemmas.Bool.{cases_eq, cases_lt}
use Rattle.std.proofs.lemmas.Bool.Decides.{nat_tests}
use Rattle.hla_catalogue.specs.Lookup.{item_numbered}
use Rattle.hla_declaration.specs.Entries.{entry_at}
use Rattle.hla_catalogue.proofs.ItemLemmas.{item_numbered-suc, item_numbered-set_same, item_numbered-set_other}

slice_get-push : {X : Type 0} (xs : List X) (x : X) (k : ℕ) → k ≢ length xs → slice_get (xs ++ x ∷ []) k ≡ slice_get xs k
slice_get-push [] x zero ne = absurd (ne refl)
slice_get-push [] x (suc k) ne = refl
slice_get-push (y ∷ ys) x zero ne = refl
slice_get-push (y ∷ ys) x (suc k) ne = slice_get-push ys x k (λ e. ne (omega arith))

slice_get-push_last : {X : Type 0} (xs : List X) (x : X) → slice_get (xs ++ x ∷ []) (length xs) ≡ Some x
slice_get-push_last [] x = refl
slice_get-push_last (y ∷ ys) x = slice_get-push_last ys x

-- the item at a number, read from its place
pub item_numbered_read : {X : Type 0} (xs : List X) (f : ℕ) (x : X) → 0 < f → f ≤ length xs → x ≡ get_or xs (f - 1) x → item_numbered xs f ≡ Some x
item_numbered_read xs zero x some within is = absurd (omega arith)
item_numbered_read xs (suc k) x some within is =
    let e : suc k - 1 ≡ k = omega arith in
    item_numbered-suc xs k ∙ slice_get_read xs (length xs) k x refl (omega arith) (rw e at is)

-- one more item is at the next number
pub item_numbered-push : {X : Type 0} (xs : List X) (x : X) (g : ℕ) → g ≢ length xs + 1 → item_numbered (xs ++ x ∷ []) g ≡ item_numbered xs g
item_numbered-push xs x zero ne = refl
item_numbered-push xs x (suc k) ne = item_numbered-suc (xs ++ x ∷ []) k ∙ slice_get-push xs x k (λ e. ne (omega arith)) ∙ sym (item_numbered-suc xs k)

pub item_numbered-push_last : {X : Type 0} (xs : List X) (x : X) → item_numbered (xs ++ x ∷ []) (length xs + 1) ≡ Some x
item_numbered-push_last xs x =
    let e : length xs + 1 ≡ suc (length xs) = omega arith in
    rw e (item_numbered-suc (xs ++ x ∷ []) (length xs) ∙ slice_get-push_last xs x)

-- the entry of the number after a place is what stands at the place
pub entry-suc : {X : Type 0} (absent : X) (xs : List X) (k : ℕ) → entry_at absent xs (suc k) ≡ get_or xs k absent
entry-suc absent xs k = rw (item_numbered-suc xs k)
    (⊎_elim (λ (within : k < length xs). rw (slice_get-get_or xs k absent within) refl)
    (λ (past : length xs ≤ k). rw (slice_get_past xs k past) (sym (get_or_past xs k absent past)))
    (cases_lt k (length xs)))

-- where nothing stands at any place, nothing stands at any number
pub entry_absent : {X : Type 0} (absent : X) (xs : List X) → ((k : ℕ) → k < length xs → get_or xs k absent ≡ absent) → (n : ℕ) → entry_at absent xs n ≡ absent
entry_absent absent xs nothing zero = refl
entry_absent absent xs nothing (suc k) = rw (item_numbered-suc xs k)
    (⊎_elim (λ (within : k < length xs). rw (slice_get-get_or xs k absent within) (nothing k within))
    (λ (past : length xs ≤ k). rw (slice_get_past xs k past) refl)
    (cases_lt k (length xs)))

pub entry-replicate : {X : Type 0} (absent : X) (count n : ℕ) → entry_at absent (replicate count absent) n ≡ absent
entry-replicate absent count n = entry_absent absent (replicate count absent) (λ k within. get_or-replicate count k absent absent (let e : length (replicate count absent) ≡ count = length-replicate count absent in omega arith)) n

pub entry-set : {X : Type 0} (absent : X) (xs : List X) (k : ℕ) (x : X) → 0 < k → k ≤ length xs → (l : ℕ) → entry_at absent (set xs (k - 1) x) l ≡ cond (eqb k l) x (entry_at absent xs l)
entry-set absent xs k x some within l = ⊎_elim
    (λ (e : k ≡ l). let y : eqb k l ≡ true = grind (arith, nat_tests) in rw (y, ← e, item_numbered-set_same xs k x some within) refl)
    (λ (ne : k ≢ l). let n : eqb k l ≡ false = grind (arith, nat_tests) in rw (n, item_numbered-set_other xs k l x some ne) refl)
    (cases_eq k l)

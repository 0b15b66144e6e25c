-- How often an event is in a list, after a change
use Rattle.std.proofs.Common.{◌≡◌, ℕ, suc, ◌+◌, ◌-◌, ◌≤◌, ◌<◌, cond, ltb, not, Bool, true, false, List, [], ◌∷◌, ◌++◌, length, Some, None, refl, sym, ap, ◌∙◌, arith}
use Rattle.std.specs.List.{position, position_or_len, remove}
use Rattle.std.proofs.lemmas.Bool.{ltb-true, ltb-false}
use Rattle.std.proofs.lemmas.Bool.Decides.{nat_tests}
use Rattle.std.proofs.lemmas.List.{take_all, drop_all, append-nil}
use Rattle.hla_base.specs.declared.number.EventHandle.{EventHandle}
use Rattle.hla_base.specs.Tables.{one_if}
use Rattle.hla_machine.specs.Central.{is_key}
use Rattle.hla_accounts.specs.Accounts.{times_listed, is_handle_of}

-- the list without the first of an event
abbrev pub without_one : ℕ → ℕ → List EventHandle → List EventHandle
without_one g m [] = []
without_one g m (e ∷ es) = cond (is_handle_of g m e) es (e ∷ without_one g m es)

removed_head : (x : EventHandle) (xs rest : List EventHandle) (n : ℕ) (b : Bool) → rest ≡ remove xs n → cond b xs (x ∷ rest) ≡ remove (x ∷ xs) (cond (not b) (1 + n) 0)
removed_head x xs rest n true e = refl
removed_head x xs rest n false e = let s : 1 + n ≡ suc n = omega arith in rw (s, e)

without_one-place : (g m : ℕ) (xs : List EventHandle) → without_one g m xs ≡ remove xs (position_or_len (is_handle_of g m) xs)
without_one-place g m [] = refl
without_one-place g m (x ∷ xs) = removed_head x xs _ _ (is_handle_of g m x) (without_one-place g m xs)

pub place_within : (g m : ℕ) (xs : List EventHandle) (i : ℕ) → Some i ≡ position (is_handle_of g m) xs → (i ≡ position_or_len (is_handle_of g m) xs) × (i < length xs)
place_within g m xs i e = by (position_or_len (is_handle_of g m) xs) (length xs) (ltb (position_or_len (is_handle_of g m) xs) (length xs)) refl e
  where
    by : (n k : ℕ) (b : Bool) → ltb n k ≡ b → Some i ≡ cond b (Some n) None → (i ≡ n) × (i < k)
    by n k true is e = let same : i ≡ n = cc in (same, rw same (ltb-true n k is))
    by n k false is e = absurd (cc)

pub removed_one : (g m : ℕ) (xs ys : List EventHandle) (i : ℕ) → Some i ≡ position (is_handle_of g m) xs → ys ≡ remove xs i → ys ≡ without_one g m xs
removed_one g m xs ys i e is = is ∙ ap (remove xs) (place_within g m xs i e).0 ∙ sym (without_one-place g m xs)

pub none_removed : (g m : ℕ) (xs : List EventHandle) → None ≡ position (is_handle_of g m) xs → without_one g m xs ≡ xs
none_removed g m xs e =
    let n = position_or_len (is_handle_of g m) xs in
    let past : length xs ≤ n = by n (length xs) (ltb n (length xs)) refl e in
    let later : length xs ≤ suc n = omega arith in
    without_one-place g m xs ∙ rw (take_all n xs past, drop_all (suc n) xs later, append-nil xs)
  where
    by : (n k : ℕ) (b : Bool) → ltb n k ≡ b → None ≡ cond b (Some n) None → k ≤ n
    by n k true is e = absurd (cc)
    by n k false is e = ltb-false n k is

pub times-without_one : (s n : ℕ) (xs : List EventHandle) (g m : ℕ) → times_listed (without_one s n xs) g m ≡ cond (is_key s n g m) (times_listed xs g m - 1) (times_listed xs g m)
unfolding times_listed
times-without_one s n [] g m = by (is_key s n g m)
  where
    by : (b : Bool) → 0 ≡ cond b (0 - 1) 0
    by true = refl
    by false = refl
times-without_one s n (e ∷ es) g m = by (is_handle_of s n e) (is_key s n g m) (is_key e.sender e.serial g m) refl refl refl (times-without_one s n es g m)
  where
    by : (h k a : Bool) → is_handle_of s n e ≡ h → is_key s n g m ≡ k → is_key e.sender e.serial g m ≡ a → times_listed (without_one s n es) g m ≡ cond k (times_listed es g m - 1) (times_listed es g m) →
        times_listed (cond h es (e ∷ without_one s n es)) g m ≡ cond k (one_if a + times_listed es g m - 1) (one_if a + times_listed es g m)
    by true true true x y z rest = omega arith
    by true true false x y z rest = absurd (grind (arith, nat_tests))
    by true false true x y z rest = absurd (grind (arith, nat_tests))
    by true false false x y z rest = omega arith
    by false true true x y z rest = absurd (grind (arith, nat_tests))
    by false true false x y z rest = rw z (omega (arith, rest))
    by false false true x y z rest = rw z (omega (arith, rest))
    by false false false x y z rest = rw z (omega (arith, rest))

pub times-push : (xs : List EventHandle) (e : EventHandle) (g m : ℕ) → times_listed (xs ++ e ∷ []) g m ≡ times_listed xs g m + one_if (is_key e.sender e.serial g m)
unfolding times_listed
times-push [] e g m = omega arith
times-push (x ∷ xs) e g m = let rest = times-push xs e g m in omega (arith, rest)

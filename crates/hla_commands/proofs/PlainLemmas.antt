-- Lines of a text that was tested whole have only bytes that they may have.
use Rattle.std.proofs.Common.{◌≡◌, ◌⊎◌, ℕ, zero, suc, ◌+◌, ◌-◌, ◌==◌, ◌||◌, ◌&&◌, Bool, true, false, cond, List, [], ◌∷◌, ◌++◌, length, length-append, map, take, drop, slice_index, nat_lt, refl, sym, ap, subst, ◌∙◌, arith, inl, inr}
use Rattle.std.proofs.lemmas.Bool.{cases_Bool, cond-true, cond-false, eq-eqb, eqb-true}
use Rattle.std.proofs.lemmas.Bool.Decides.{nat_tests}
use Rattle.std.specs.List.{list_all}
use Rattle.bstr.specs.Text.{line_len, lines_from, lines_of, without_terminator, no_cr}
use Rattle.hla_commands.specs.Script.{is_plain, is_text, ArePlain}

-- both hold
both_first : (a b : Bool) → (a && b) ≡ true → a ≡ true
both_first true b e = refl
both_first false b e = cc

both_second : (a b : Bool) → (a && b) ≡ true → b ≡ true
both_second true b e = e
both_second false b e = cc

module _ (p : ℕ → Bool) where
  all_taken : (n : ℕ) (xs : List ℕ) → list_all p xs ≡ true → list_all p (take n xs) ≡ true
  all_taken zero xs all = refl
  all_taken (suc n) [] all = refl
  all_taken (suc n) (x ∷ xs) all = rw (both_first (p x) (list_all p xs) all) (all_taken n xs (both_second (p x) (list_all p xs) all))

  all_dropped : (n : ℕ) (xs : List ℕ) → list_all p xs ≡ true → list_all p (drop n xs) ≡ true
  all_dropped zero xs all = all
  all_dropped (suc n) [] all = refl
  all_dropped (suc n) (x ∷ xs) all = all_dropped n xs (both_second (p x) (list_all p xs) all)

  all_of_either : (b : Bool) (xs ys : List ℕ) → list_all p xs ≡ true → list_all p ys ≡ true → list_all p (cond b xs ys) ≡ true
  all_of_either true xs ys all also = all
  all_of_either false xs ys all also = also

  all_without : (xs : List ℕ) → list_all p xs ≡ true → list_all p (no_cr xs) ≡ true
  all_without xs all = all_of_either _ _ _ (all_taken (length xs - 1) xs all) all

  all_ended : (l : List ℕ) → list_all p l ≡ true → list_all p (without_terminator l) ≡ true
  all_ended l all = all_of_either (nat_lt 0 (length l) && slice_index l (length l - 1) == 10) (no_cr (take (length l - 1) l)) l (all_without (take (length l - 1) l) (all_taken (length l - 1) l all)) all

last_of : (x : List ℕ) → slice_index (x ++ 10 ∷ []) (length x) ≡ 10
last_of [] = refl
last_of (b ∷ x) = last_of x

front_of : (x : List ℕ) → take (length x) (x ++ 10 ∷ []) ≡ x
front_of [] = refl
front_of (b ∷ x) = ap (λ (l : List ℕ). b ∷ l) (front_of x)

-- what ends a line is taken away
ended : (x : List ℕ) → without_terminator (x ++ 10 ∷ []) ≡ no_cr x
ended x =
    let long : length (x ++ 10 ∷ []) ≡ length x + 1 = length-append x (10 ∷ []) in
    let place : length (x ++ 10 ∷ []) - 1 ≡ length x = omega (arith, long) in
    let is : slice_index (x ++ 10 ∷ []) (length (x ++ 10 ∷ []) - 1) ≡ 10 = ap (slice_index (x ++ 10 ∷ [])) place ∙ last_of x in
    let some : nat_lt 0 (length (x ++ 10 ∷ [])) ≡ true = grind (arith, nat_tests, long) in
    let both : (nat_lt 0 (length (x ++ 10 ∷ [])) && slice_index (x ++ 10 ∷ []) (length (x ++ 10 ∷ []) - 1) == 10) ≡ true = rw some (eq-eqb _ _ is) in
    cond-true _ _ _ both ∙ ap (λ (k : ℕ). no_cr (take k (x ++ 10 ∷ []))) place ∙ ap no_cr (front_of x)

-- a line is what it may have and its end, or has no end
line_parts : (bs : List ℕ) → list_all is_text bs ≡ true → ((x : List ℕ) × (take (line_len bs) bs ≡ x ++ 10 ∷ []) × (list_all is_plain x ≡ true)) ⊎ (list_all is_plain (take (line_len bs) bs) ≡ true)
unfolding line_len
line_parts [] all = inr refl
line_parts (b ∷ rest) all = elim (cases_Bool (b == 10)) [
  | inl end ↦ inl ([], ap (λ (k : ℕ). take k (b ∷ rest)) (cond-true _ 1 (suc (line_len rest)) end) ∙ ap (λ (c : ℕ). c ∷ []) (eqb-true b 10 end), refl)
  | inr other ↦
      let first : is_plain b ≡ true = subst (λ (t : Bool). (t || is_plain b) ≡ true) other (both_first (is_text b) (list_all is_text rest) all) in
      let long : take (line_len (b ∷ rest)) (b ∷ rest) ≡ b ∷ take (line_len rest) rest = ap (λ (k : ℕ). take k (b ∷ rest)) (cond-false _ 1 (suc (line_len rest)) other) in
      elim (line_parts rest (both_second (is_text b) (list_all is_text rest) all)) [
        | inl (x, is, plain) ↦ inl (b ∷ x, long ∙ ap (λ (l : List ℕ). b ∷ l) is, rw first plain)
        | inr plain ↦ inr (rw long (rw first plain))
      ]
]

plain_line : (bs : List ℕ) → list_all is_text bs ≡ true → list_all is_plain (without_terminator (take (line_len bs) bs)) ≡ true
plain_line bs all = elim (line_parts bs all) [
  | inl (x, is, plain) ↦ rw is (rw (ended x) (all_without is_plain x plain))
  | inr plain ↦ all_ended is_plain (take (line_len bs) bs) plain
]

lines_plain : (n : ℕ) (bs : List ℕ) (tested : Bool) → (tested ≡ true → list_all is_text bs ≡ true) → ArePlain tested (map without_terminator (lines_from n bs))
unfolding lines_from
lines_plain zero bs tested all = tt
lines_plain (suc n) [] tested all = tt
lines_plain (suc n) (b ∷ rest) tested all = (λ e. plain_line (b ∷ rest) (all e), lines_plain n (drop (line_len (b ∷ rest)) (b ∷ rest)) tested (λ e. all_dropped is_text (line_len (b ∷ rest)) (b ∷ rest) (all e)))

-- the lines of a text, by whether it was tested
pub plain_lines : (bs : List ℕ) (tested : Bool) → tested ≡ list_all is_text bs → ArePlain tested (map without_terminator (lines_of bs))
plain_lines bs tested is = lines_plain (length bs) bs tested (λ e. sym is ∙ e)

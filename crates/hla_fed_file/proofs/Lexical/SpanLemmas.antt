-- A run of bytes is as long as its lanes say.
use Rattle.std.proofs.Common.{◌≡◌, ℕ, zero, suc, ◌+◌, ◌-◌, ◌*◌, ◌/◌, ◌%◌, ◌^◌, ◌<◌, ◌≤◌, Bool, true, false, not, List, [], ◌∷◌, map, length, take, drop, get_or, slice_index, bit_and, replicate, Fits, w8, refl, sym, ap, ap₂, ◌∙◌, subst, arith, inl, inr}
use Rattle.std.proofs.lemmas.Bool.{agree_below, agree_below_at, not-true, not-false, cases_eq, cases_lt, eq-eqb, ne_eqb, cond-true, cond-false}
use Rattle.std.proofs.lemmas.Simd.{map-map, mask_l-mod, length-chunk, get_or-chunk, leading_from_mask_l, trailing_mask_l, Each1-all, Each1-zip2, Each2-splat, length-zip2, swz_l, SwzOk, SwzOk-from_below, length-swz_l, get_or-swz_l_below}
use Rattle.std.proofs.lemmas.List.{get_or-map, length-map, length-drop, take_all, ext_get_or}
use Rattle.std.proofs.lemmas.Nat.{and_le_r}
use Rattle.std.proofs.lemmas.List.Sums.{prefix_len-le-length, prefix_len_passes, prefix_len_stops}
use Rattle.std.specs.List.{prefix_len}
use lib.Lanes.{chunk, zip2, mask_l, top}
use Rattle.hla_fed_file.specs.Spans.{AllPass, IsSpan, first_set}

zip2-map : (h : ℕ → ℕ → ℕ) (f g : ℕ → ℕ) (xs : List ℕ) → zip2 h (map f xs) (map g xs) ≡ map (λ x. h (f x) (g x)) xs
zip2-map h f g [] = refl
zip2-map h f g (x ∷ xs) = ap (λ r. h (f x) (g x) ∷ r) (zip2-map h f g xs)

-- an operation on two vectors that were computed lane by lane from v
pub joined_lanes : (h : ℕ → ℕ → ℕ) (f g : ℕ → ℕ) (v : List ℕ) {a b : List ℕ} → a ≡ map f v → b ≡ map g v → zip2 h a b ≡ map (λ x. h (f x) (g x)) v
joined_lanes h f g v p q = ap₂ (zip2 h) p q ∙ zip2-map h f g v

-- an operation on each lane of a vector that was computed lane by lane from v
pub turned : (h : ℕ → ℕ) (f : ℕ → ℕ) (v : List ℕ) {a : List ℕ} → a ≡ map f v → map h a ≡ map (λ x. h (f x)) v
turned h f v p = ap (map h) p ∙ map-map h f v

-- an operation on the lanes of v and a vector that was computed of them
pub with_lanes : (h : ℕ → ℕ → ℕ) (g : ℕ → ℕ) (v : List ℕ) {b : List ℕ} → b ≡ map g v → zip2 h v b ≡ map (λ x. h x (g x)) v
with_lanes h g v p = ap (zip2 h v) p ∙ lanes v
  where
    lanes : (xs : List ℕ) → zip2 h xs (map g xs) ≡ map (λ x. h x (g x)) xs
    lanes [] = refl
    lanes (x ∷ xs) = ap (λ r. h x (g x) ∷ r) (lanes xs)

abbrev pub low_bits : ℕ → ℕ
low_bits b = bit_and b 15

pub low_bits_within : (v : List ℕ) → length v ≡ 16 → SwzOk w8 16 16 0 (zip2 bit_and v (replicate 16 15))
low_bits_within v long =
    let small = Each1-all (λ a. bit_and a 15 < 16) (λ a. omega (arith, and_le_r a 15)) v in
    SwzOk-from_below w8 16 1 16 0 (zip2 bit_and v (replicate 16 15)) refl (omega (arith, length-zip2 bit_and v (replicate 16 15) long))
    (Each1-zip2 bit_and (λ j. j < 16) v (replicate 16 15) (Each2-splat (λ a b. bit_and a b < 16) v 16 15 small))

-- a table that is read at the low bits of each lane
pub looked_up : (table v js : List ℕ) → length v ≡ 16 → js ≡ map low_bits v → swz_l w8 16 table 0 js ≡ map (λ b. slice_index table (low_bits b)) v
looked_up table v js fits e =
    let long : length js ≡ 16 = ap length e ∙ length-map v low_bits ∙ fits in
    ext_get_or 0 _ _ (length-swz_l w8 16 table 0 js ∙ long ∙ sym (length-map v (λ b. slice_index table (low_bits b)) ∙ fits)) (λ i h.
    let lt : i < 16 = omega (arith, length-swz_l w8 16 table 0 js) in
    let within : i < length v = omega (arith, fits) in
    let is : get_or js i 0 ≡ low_bits (get_or v i 0) = ap (λ l. get_or l i 0) e ∙ get_or-map low_bits v i 0 0 within in
    let below : get_or js i 0 < 16 = omega (arith, is, and_le_r (get_or v i 0) 15) in
    let place : 16 * ((0 + i) / 16) + get_or js i 0 ≡ low_bits (get_or v i 0) = omega (arith, is) in
    get_or-swz_l_below w8 16 table 0 js i (omega arith) below ∙ ap (λ k. get_or table k 0) place ∙ sym (get_or-map (λ b. slice_index table (low_bits b)) v i 0 0 within))

run_is : (p : ℕ → Bool) (v : List ℕ) (n : ℕ) → length v ≡ n → n ≤ 64 → first_set (mask_l (map p v)) n ≡ prefix_len (λ x. not (p x)) v
run_is p v n long few =
    elim (cases_eq (mask_l (map p v)) 0) [
      | inl none ↦ cond-true _ _ _ (eq-eqb _ _ none) ∙ sym (leading_from_mask_l p v none ∙ long)
      | inr some ↦ cond-false _ _ _ (ne_eqb _ _ some) ∙ trailing_mask_l p 64 v (omega arith) (omega arith)
    ]

module _ (q : ℕ → Bool) (d : List ℕ) (i n r : ℕ) (z : List ℕ) (room : i + n ≤ length d) (few : n ≤ 64)
    (fits : (k : ℕ) → Fits w8 (get_or d k 0)) (found : r ≡ first_set (mask_l (map (top 7) z) % 2 ^ 64) n)
    (f : ℕ → ℕ) (lanes : z ≡ map f (chunk i n d)) where
  abbrev stops : ℕ → Bool
  stops x = top 7 (f x)

  long : length (chunk i n d) ≡ n
  long = length-chunk i n d room

  counted : r ≡ prefix_len (λ x. not (stops x)) (chunk i n d)
  counted =
      let v = chunk i n d in
      let mask = ap (λ l. mask_l l % 2 ^ 64) (ap (map (top 7)) lanes ∙ map-map (top 7) f v) ∙ mask_l-mod (map stops v) 64 (omega (arith, length-map v stops, long)) in
      found ∙ ap (λ m. first_set m n) mask ∙ run_is stops v n long few

  goes_on : (k : ℕ) → i ≤ k → k < i + r → stops (get_or d k 0) ≡ false
  goes_on k from to =
      let back : i + (k - i) ≡ k = omega arith in
      let bound = prefix_len-le-length (λ x. not (stops x)) (chunk i n d) in
      let at = get_or-chunk i n d (k - i) 0 (omega (arith, counted, long)) ∙ ap (λ j. get_or d j 0) back in
      subst (λ x. stops x ≡ false) at (not-true _ (prefix_len_passes (λ x. not (stops x)) (chunk i n d) (k - i) 0 (omega (arith, counted))))

  -- a lane stops just where q fails
  pub run_in : agree_below stops (λ x. not (q x)) 256 ≡ true → IsSpan q d i n r
  run_in all = record {
    few = omega (arith, counted, long, prefix_len-le-length (λ x. not (stops x)) (chunk i n d));
    pass = λ k from to. not-false _ (sym (agree_below_at stops (λ x. not (q x)) 256 (get_or d k 0) all (fits k).fits) ∙ goes_on k from to);
    stops = λ short.
        let at = ap (λ j. get_or (chunk i n d) j 0) (sym counted) ∙ get_or-chunk i n d r 0 short in
        let set = subst (λ x. stops x ≡ true) at (not-false _ (prefix_len_stops (λ x. not (stops x)) (chunk i n d) 0 (omega (arith, counted, long)))) in
        not-true _ (sym (agree_below_at stops (λ x. not (q x)) 256 (get_or d (i + r) 0) all (fits (i + r)).fits) ∙ set);
  }

-- what passes in front is counted, and then what passes behind it
pub counted_from : (p : ℕ → Bool) (xs : List ℕ) (at : ℕ) → at ≤ length xs → AllPass p xs 0 at → at + prefix_len p (drop at xs) ≡ prefix_len p xs
counted_from p xs zero within pass = omega arith
counted_from p [] (suc at) within pass = absurd (omega arith)
counted_from p (x ∷ xs) (suc at) within pass =
    let first : p x ≡ true = pass 0 (omega arith) (omega arith) in
    let later = counted_from p xs at (omega arith) (λ k from to. pass (suc k) (omega arith) (omega arith)) in
    rw first (omega (arith, later))

-- nothing passes in front where the first byte fails
stops_here : (p : ℕ → Bool) (xs : List ℕ) (at : ℕ) → at < length xs → p (slice_index xs at) ≡ false → prefix_len p (drop at xs) ≡ 0
stops_here p [] at within fails = absurd (omega arith)
stops_here p (x ∷ xs) zero within fails = let first : p x ≡ false = fails in rw first refl
stops_here p (x ∷ xs) (suc at) within fails = stops_here p xs at (omega arith) fails

-- a byte that fails behind bytes that pass
pub counted_to : (p : ℕ → Bool) (xs : List ℕ) (at : ℕ) → at < length xs → AllPass p xs 0 at → p (slice_index xs at) ≡ false → at ≡ prefix_len p xs
counted_to p xs at within pass fails = omega (arith, counted_from p xs at (omega arith) pass, stops_here p xs at within fails)

-- where a run stops behind bytes that pass, all of it is counted
pub counted_run : (p : ℕ → Bool) (xs : List ℕ) (at n run : ℕ) → AllPass p xs 0 at → IsSpan p xs at n run → run < n → at + n ≤ length xs → at + run ≡ prefix_len p xs
counted_run p xs at n run pass found short within =
    counted_to p xs (at + run) (omega arith) (λ k from to. elim (cases_lt k at) [ inl early ↦ pass k from early | inr late ↦ found.pass k (omega arith) to ]) (found.stops short)

-- the bytes from a place on, as they are passed on
pub counted_behind : (p : ℕ → Bool) (xs : List ℕ) (at : ℕ) → at ≤ length xs → AllPass p xs 0 at → at + prefix_len p (take (length xs - at) (drop at xs)) ≡ prefix_len p xs
counted_behind p xs at within pass =
    ap (λ (l : List ℕ). at + prefix_len p l) (take_all _ _ (omega (arith, length-drop at xs))) ∙ counted_from p xs at within pass

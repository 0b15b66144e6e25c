-- Going through blocks from the least on: the event at a place, how many are below a bound, and their handles
use Rattle.std.proofs.Common.{◌≡◌, ℕ, zero, suc, ◌+◌, ◌-◌, ◌≤◌, ◌<◌, min, map, Bool, true, false, cond, ltb, List, [], ◌∷◌, ◌++◌, length, take, Option, Some, None, refl, sym, ap, ◌∙◌, append_assoc, arith}
use Rattle.std.proofs.lemmas.Bool.{ltb-true, ltb-false}
use Rattle.std.proofs.lemmas.List.{append-nil}
use Rattle.std.specs.List.{prefix_len, slice_get}
use Rattle.std.specs.Option.{unwrap_or}
use Rattle.slab.specs.Slab.{Slab, get}
use Rattle.hla_base.specs.declared.content.Event.{Event}
use Rattle.hla_base.specs.declared.number.EventHandle.{EventHandle}
use Rattle.hla_component_rules.specs.Queues.{handle_of, handles_of}
use Rattle.hla_order_queues.specs.Kept.{joined}
use Rattle.hla_order_queues.specs.Places.{block_in}

-- the next block
pub next_block : (old rest : List (List Event)) (b : List Event) → old ≡ b ∷ rest → joined old ≡ b ++ joined rest
unfolding joined
next_block old rest b e = ap joined e

pub none_left : (old : List (List Event)) → old ≡ [] → joined old ≡ []
unfolding joined
none_left old e = ap joined e

-- the block at the next place
pub next_in : (s : Slab (List Event)) (old rest : List ℕ) (p : ℕ) (b : List Event) → old ≡ p ∷ rest → Some b ≡ get s p → map (block_in s) old ≡ b ∷ map (block_in s) rest
next_in s old rest p b e at = ap (map (block_in s)) e ∙ ap (λ o. unwrap_or o [] ∷ map (block_in s) rest) (sym at)

pub next_none : (s : Slab (List Event)) (old rest : List ℕ) (p : ℕ) → old ≡ p ∷ rest → None ≡ get s p → joined (map (block_in s) old) ≡ joined (map (block_in s) rest)
unfolding joined
next_none s old rest p e at = ap (λ ps. joined (map (block_in s) ps)) e ∙ ap (λ o. unwrap_or o [] ++ joined (map (block_in s) rest)) (sym at)

pub nothing_in : (s : Slab (List Event)) (old : List ℕ) → old ≡ [] → map (block_in s) old ≡ []
nothing_in s old e = ap (map (block_in s)) e

-- the event at a place
pub slice_get_front : (xs ys : List Event) (i : ℕ) → i < length xs → slice_get (xs ++ ys) i ≡ slice_get xs i
slice_get_front [] ys i h = absurd (omega arith)
slice_get_front (x ∷ xs) ys zero h = refl
slice_get_front (x ∷ xs) ys (suc i) h = slice_get_front xs ys i (omega arith)

pub slice_get_back : (xs ys : List Event) (i n : ℕ) → n ≡ length xs → n ≤ i → slice_get (xs ++ ys) i ≡ slice_get ys (i - n)
slice_get_back [] ys i n e h = let s : i ≡ i - n = omega (arith, e) in ap (slice_get ys) s
slice_get_back (x ∷ xs) ys zero n e h = absurd (omega (arith, e))
slice_get_back (x ∷ xs) ys (suc i) n e h =
    let s : i - length xs ≡ suc i - n = omega (arith, e) in
    slice_get_back xs ys i (length xs) refl (omega (arith, e)) ∙ ap (slice_get ys) s

pub within_block : (old rest : List (List Event)) (b : List Event) (i n : ℕ) (o : Option Event) → old ≡ b ∷ rest → n ≡ length b → i < n → slice_get (joined old) i ≡ o → slice_get b i ≡ o
within_block old rest b i n o e size h is =
    let low : i < length b = omega (arith, size) in
    sym (slice_get_front b (joined rest) i low) ∙ ap (λ zs. slice_get zs i) (sym (next_block old rest b e)) ∙ is

pub passed_block : (old rest : List (List Event)) (b : List Event) (i n : ℕ) (o : Option Event) → old ≡ b ∷ rest → n ≡ length b → n ≤ i → slice_get (joined old) i ≡ o → slice_get (joined rest) (i - n) ≡ o
passed_block old rest b i n o e size h is =
    sym (slice_get_back b (joined rest) i n size h) ∙ ap (λ zs. slice_get zs i) (sym (next_block old rest b e)) ∙ is

pub nothing_at : (old : List (List Event)) (i : ℕ) (o : Option Event) → old ≡ [] → slice_get (joined old) i ≡ o → None ≡ o
nothing_at old i o e is = ap (λ zs. slice_get zs i) (sym (none_left old e)) ∙ is

-- how many are below a bound
bound_if : (b : Bool) (n l : ℕ) → n ≤ l → cond b (1 + n) 0 ≤ suc l
bound_if true n l h = omega arith
bound_if false n l h = omega arith

pub prefix_len-le : (p : Event → Bool) (xs : List Event) → prefix_len p xs ≤ length xs
prefix_len-le p [] = omega arith
prefix_len-le p (x ∷ xs) = bound_if (p x) (prefix_len p xs) (length xs) (prefix_len-le p xs)

longer : (b : Bool) (n t l m : ℕ) → (l ≤ n → t ≡ n + m) × (n < l → t ≡ n) → (suc l ≤ cond b (1 + n) 0 → cond b (1 + t) 0 ≡ cond b (1 + n) 0 + m) × (cond b (1 + n) 0 < suc l → cond b (1 + t) 0 ≡ cond b (1 + n) 0)
longer true n t l m h = (λ k. let e : t ≡ n + m = h.0 (omega arith) in omega arith, λ k. let e : t ≡ n = h.1 (omega arith) in omega arith)
longer false n t l m h = (λ k. absurd (omega arith), λ k. refl)

pub prefix_len-parts : (p : Event → Bool) (xs ys : List Event) → (length xs ≤ prefix_len p xs → prefix_len p (xs ++ ys) ≡ prefix_len p xs + prefix_len p ys) × (prefix_len p xs < length xs → prefix_len p (xs ++ ys) ≡ prefix_len p xs)
prefix_len-parts p [] ys = (λ h. omega arith, λ h. omega arith)
prefix_len-parts p (x ∷ xs) ys = longer (p x) (prefix_len p xs) (prefix_len p (xs ++ ys)) (length xs) (prefix_len p ys) (prefix_len-parts p xs ys)

at_most_if : (b : Bool) (n l m t : ℕ) → ltb n l ≡ b → (l ≤ n → t ≡ n + m) × (n < l → t ≡ n) → n ≤ t
at_most_if true n l m t is parts = let e : t ≡ n = parts.1 (ltb-true n l is) in omega arith
at_most_if false n l m t is parts = let e : t ≡ n + m = parts.0 (ltb-false n l is) in omega arith

at_most : (n l m t : ℕ) → n ≤ l → (l ≤ n → t ≡ n + m) × (n < l → t ≡ n) → n ≤ t
at_most n l m t h parts = at_most_if (ltb n l) n l m t refl parts

pub record Counted (count here t : ℕ) (p : Event → Bool) (b : List Event) (rest : List (List Event)) : Type 0 where
  pub bound : count + here ≤ t
  pub all : length b ≤ here → count + here + prefix_len p (joined rest) ≡ t
  pub some : here < length b → count + here ≡ t

pub counted_block : (p : Event → Bool) (old rest : List (List Event)) (b : List Event) (count here t : ℕ) → old ≡ b ∷ rest → here ≡ prefix_len p b → count + prefix_len p (joined old) ≡ t → Counted count here t p b rest
counted_block p old rest b count here t e is sum =
    let parts = prefix_len-parts p b (joined rest) in
    let whole : prefix_len p (joined old) ≡ prefix_len p (b ++ joined rest) = ap (prefix_len p) (next_block old rest b e) in
    record {
      bound = let q : prefix_len p b ≤ prefix_len p (b ++ joined rest) = at_most (prefix_len p b) (length b) (prefix_len p (joined rest)) (prefix_len p (b ++ joined rest)) (prefix_len-le p b) parts in omega arith;
      all = λ h. let q : prefix_len p (b ++ joined rest) ≡ prefix_len p b + prefix_len p (joined rest) = parts.0 (omega arith) in omega arith;
      some = λ h. let q : prefix_len p (b ++ joined rest) ≡ prefix_len p b = parts.1 (omega arith) in omega arith;
    }

-- handles
pub handles_of-append : (xs ys : List Event) → handles_of (xs ++ ys) ≡ handles_of xs ++ handles_of ys
unfolding handles_of
handles_of-append [] ys = refl
handles_of-append (x ∷ xs) ys = ap (λ hs. handle_of x ∷ hs) (handles_of-append xs ys)

take_one_more : (xs : List Event) (i : ℕ) (e : Event) → Some e ≡ slice_get xs i → take (i + 1) xs ≡ take i xs ++ e ∷ []
take_one_more [] i e h = absurd (cc)
take_one_more (x ∷ xs) zero e h = let same : x ≡ e = cc in rw same refl
take_one_more (x ∷ xs) (suc i) e h = let s : suc i + 1 ≡ suc (i + 1) = omega arith in rw s (ap (λ zs. x ∷ zs) (take_one_more xs i e h))

take_no_more : (xs : List Event) (i : ℕ) → None ≡ slice_get xs i → take (i + 1) xs ≡ take i xs
take_no_more [] zero h = refl
take_no_more [] (suc i) h = let s : suc i + 1 ≡ suc (i + 1) = omega arith in rw s refl
take_no_more (x ∷ xs) zero h = absurd (cc)
take_no_more (x ∷ xs) (suc i) h = let s : suc i + 1 ≡ suc (i + 1) = omega arith in rw s (ap (λ zs. x ∷ zs) (take_no_more xs i h))

pub no_handles_yet : (hs : List EventHandle) (xs : List Event) → hs ≡ hs ++ handles_of (take 0 xs)
unfolding handles_of
no_handles_yet hs xs = sym (append-nil hs)

pub one_more_handle : (old hs : List EventHandle) (xs : List Event) (i : ℕ) (e : Event) → Some e ≡ slice_get xs i → hs ≡ old ++ handles_of (take i xs) → hs ++ handle_of e ∷ [] ≡ old ++ handles_of (take (i + 1) xs)
unfolding handles_of
one_more_handle old hs xs i e at is =
    ap (λ gs. gs ++ handle_of e ∷ []) is
    ∙ append_assoc old (handles_of (take i xs)) (handle_of e ∷ [])
    ∙ ap (λ gs. old ++ gs) (sym (handles_of-append (take i xs) (e ∷ [])) ∙ ap handles_of (sym (take_one_more xs i e at)))

pub no_more_handles : (old hs : List EventHandle) (xs : List Event) (i : ℕ) → None ≡ slice_get xs i → hs ≡ old ++ handles_of (take i xs) → hs ≡ old ++ handles_of (take (i + 1) xs)
no_more_handles old hs xs i at is = is ∙ ap (λ zs. old ++ handles_of zs) (sym (take_no_more xs i at))

pub take-parts : (n : ℕ) (xs ys : List Event) → take n (xs ++ ys) ≡ take (min n (length xs)) xs ++ take (n - min n (length xs)) ys
take-parts zero xs ys = let s : min zero (length xs) ≡ 0 = omega arith in let t : zero - min zero (length xs) ≡ 0 = omega arith in rw (t, s) refl
take-parts (suc n) [] ys = let s : min (suc n) 0 ≡ 0 = omega arith in let t : suc n - 0 ≡ suc n = omega arith in rw (s, t) refl
take-parts (suc n) (x ∷ xs) ys =
    let s : min (suc n) (suc (length xs)) ≡ suc (min n (length xs)) = omega arith in
    let t : suc n - suc (min n (length xs)) ≡ n - min n (length xs) = omega arith in
    rw (s, t) (ap (λ zs. x ∷ zs) (take-parts n xs ys))

take_none : (n : ℕ) → take {A = Event} n [] ≡ []
take_none zero = refl
take_none (suc n) = refl

-- what is put and what is left to put
pub more_handles : (old rest : List (List Event)) (b : List Event) (hs new all : List EventHandle) (left here : ℕ) → old ≡ b ∷ rest → here ≡ min left (length b) → new ≡ hs ++ handles_of (take here b) → hs ++ handles_of (take left (joined old)) ≡ all → new ++ handles_of (take (left - here) (joined rest)) ≡ all
more_handles old rest b hs new all left here e size put is =
    ap (λ gs. gs ++ handles_of (take (left - here) (joined rest))) put
    ∙ append_assoc hs (handles_of (take here b)) (handles_of (take (left - here) (joined rest)))
    ∙ ap (λ gs. hs ++ gs) (sym (handles_of-append (take here b) (take (left - here) (joined rest))) ∙ ap handles_of (rw size (sym (take-parts left b (joined rest))) ∙ ap (take left) (sym (next_block old rest b e))))
    ∙ is

pub handles_done : (rest : List (List Event)) (hs all : List EventHandle) (left : ℕ) → left ≡ 0 → hs ++ handles_of (take left (joined rest)) ≡ all → hs ≡ all
unfolding handles_of
handles_done rest hs all left e is = sym (append-nil hs) ∙ ap (λ n. hs ++ handles_of (take n (joined rest))) (sym e) ∙ is

pub handles_ended : (rest : List (List Event)) (hs all : List EventHandle) (left : ℕ) → rest ≡ [] → hs ++ handles_of (take left (joined rest)) ≡ all → hs ≡ all
unfolding handles_of
handles_ended rest hs all left e is =
    sym (append-nil hs) ∙ ap (λ zs. hs ++ handles_of zs) (sym (take_none left) ∙ ap (take left) (sym (none_left rest e))) ∙ is

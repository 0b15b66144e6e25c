-- Names and their numbers.
use Rattle.std.proofs.Common.{◌≡◌, ℕ, ◌+◌, Bool, true, false, cond, List, [], ◌∷◌, ◌++◌, length, Option, None, Some, refl, sym, ap, ◌∙◌, arith}
use Rattle.std.specs.declared.vec.Vec.{Vec}
use Rattle.std.specs.declared.alloc.Global.{Global}
use Rattle.std.specs.Map.{lookup}
use Rattle.std.specs.Str.{bytes_eq}
use Rattle.std.specs.List.{position, position_from}
use Rattle.std.proofs.lemmas.Bool.Decides.{same_from_decides, Decides-like}
use Rattle.std.proofs.lemmas.Slice.Eq.{bytes_eq-Decides}
use Rattle.std.proofs.lemmas.Iterator.Adapters.{position_from-zero}
use Rattle.indexmap.specs.IndexMap.{insert_entry}
use Rattle.hla_base.specs.Tables.{or_else}
use Rattle.hla_catalogue.specs.Lookup.{number_at}
use Rattle.hla_catalogue.specs.Names.{Numbered, number_named, numbers_of_names, with_number}

pub number_found : (es : List (Vec ℕ Global × ℕ)) (name : List ℕ) → lookup (λ k. bytes_eq name k.items) es ≡ number_named (numbers_of_names es) name
number_found [] name = refl
number_found (e ∷ es) name = ap (cond (bytes_eq name e.0.items) (Some e.1)) (number_found es name)

pub number_added : (es : List (Vec ℕ Global × ℕ)) (k : Vec ℕ Global) (v : ℕ) → number_named (numbers_of_names es) k.items ≡ None → numbers_of_names (insert_entry (λ a b. bytes_eq a.items b.items) es k v) ≡ numbers_of_names es ++ (k.items, v) ∷ []
number_added [] k v h = refl
number_added (e ∷ es) k v h = elim (bytes_eq k.items e.0.items) as (λ b. cond b (Some e.1) (number_named (numbers_of_names es) k.items) ≡ None → numbers_of_names (cond b ((e.0, v) ∷ es) (e ∷ insert_entry (λ a b. bytes_eq a.items b.items) es k v)) ≡ (e.0.items, e.1) ∷ (numbers_of_names es ++ (k.items, v) ∷ [])) [
  | true ↦ λ bad. cc
  | false ↦ λ none. ap (λ (r : List (List ℕ × ℕ)). (e.0.items, e.1) ∷ r) (number_added es k v none)
] h

-- a name that has no number is added
pub new_name_last : (ns : Numbered) (name : List ℕ) (n : ℕ) → None ≡ number_named ns name → with_number ns name n ≡ ns ++ (name, n) ∷ []
new_name_last ns name n h = rw (sym h) refl

pub noted_before : (ns : Numbered) (name : List ℕ) (n m : ℕ) → Some m ≡ number_named ns name → with_number ns name n ≡ ns
noted_before ns name n m h = rw (sym h) refl

number_in-append : (ns : Numbered) (q : List ℕ) (n : ℕ) (name : List ℕ) → number_named (ns ++ (q, n) ∷ []) name ≡ or_else (number_named ns name) (cond (bytes_eq name q) (Some n) None)
number_in-append [] q n name = refl
number_in-append (e ∷ ns) q n name = elim (bytes_eq name e.0) as (λ b. cond b (Some e.1) (number_named (ns ++ (q, n) ∷ []) name) ≡ or_else (cond b (Some e.1) (number_named ns name)) (cond (bytes_eq name q) (Some n) None)) [ true ↦ refl | false ↦ number_in-append ns q n name ]

position_from-append : {X : Type 0} (p : X → Bool) (i : ℕ) (xs : List X) (x : X) → position_from p i (xs ++ x ∷ []) ≡ or_else (position_from p i xs) (cond (p x) (Some (i + length xs)) None)
position_from-append p i [] x = let e : i + 0 ≡ i = omega arith in rw e refl
position_from-append p i (y ∷ xs) x =
    let e : i + length (y ∷ xs) ≡ i + 1 + length xs = omega arith in
    elim (p y) as (λ b. cond b (Some i) (position_from p (i + 1) (xs ++ x ∷ [])) ≡ or_else (cond b (Some i) (position_from p (i + 1) xs)) (cond (p x) (Some (i + length (y ∷ xs))) None)) [ true ↦ refl | false ↦ rw e (position_from-append p (i + 1) xs x) ]

number_at-or_else : (a b : Option ℕ) → number_at (or_else a b) ≡ or_else (number_at a) (number_at b)
number_at-or_else None b = refl
number_at-or_else (Some n) b = refl

or_else-None : (a : Option ℕ) → or_else a None ≡ a
or_else-None None = refl
or_else-None (Some n) = refl

number_at-cond : (b : Bool) (n : ℕ) → number_at (cond b (Some (0 + n)) None) ≡ cond b (Some (n + 1)) None
number_at-cond true n = let e : 0 + n + 1 ≡ n + 1 = omega arith in ap (λ (k : ℕ). Some k) e
number_at-cond false n = refl

-- the first number of one more item
pub number_at-append : {X : Type 0} (p : X → Bool) (xs : List X) (x : X) → number_at (position p (xs ++ x ∷ [])) ≡ or_else (number_at (position p xs)) (cond (p x) (Some (length xs + 1)) None)
number_at-append p xs x =
    ap number_at (position_from-zero p (xs ++ x ∷ []) ∙ position_from-append p 0 xs x ∙ ap (λ a. or_else a (cond (p x) (Some (0 + length xs)) None)) (sym (position_from-zero p xs)))
    ∙ number_at-or_else (position p xs) (cond (p x) (Some (0 + length xs)) None)
    ∙ ap (or_else (number_at (position p xs))) (number_at-cond (p x) (length xs))

pub bytes_eq-comm : (a b : List ℕ) → bytes_eq a b ≡ bytes_eq b a
bytes_eq-comm a b = same_from_decides (bytes_eq a b) (bytes_eq b a) (bytes_eq-Decides a b) (Decides-like (bytes_eq b a) sym sym (bytes_eq-Decides b a))

known_before : (ns : Numbered) (m n : ℕ) (b : Bool) (q name : List ℕ) → bytes_eq q name ≡ b → number_named ns q ≡ Some m → number_named ns name ≡ or_else (number_named ns name) (cond b (Some n) None)
known_before ns m n true q name e h =
    let same : q ≡ name = (bytes_eq-Decides q name).0 e in
    let known : number_named ns name ≡ Some m = ap (number_named ns) (sym same) ∙ h in
    rw known refl
known_before ns m n false q name e h = sym (or_else-None (number_named ns name))

one_more_path : (ns : Numbered) (q name : List ℕ) (n : ℕ) (found : Option ℕ) → number_named ns q ≡ found → number_named (with_number ns q n) name ≡ or_else (number_named ns name) (cond (bytes_eq q name) (Some n) None)
one_more_path ns q name n None h = ap (λ all. number_named all name) (new_name_last ns q n (sym h)) ∙ number_in-append ns q n name ∙ ap (λ b. or_else (number_named ns name) (cond b (Some n) None)) (bytes_eq-comm name q)
one_more_path ns q name n (Some m) h = ap (λ all. number_named all name) (noted_before ns q n m (sym h)) ∙ known_before ns m n (bytes_eq q name) q name refl h

-- the index of one more class
pub paths_added : {X : Type 0} (path : X → List ℕ) (ns : Numbered) (xs : List X) (x : X) → ((name : List ℕ) → number_named ns name ≡ number_at (position (λ k. bytes_eq (path k) name) xs))
    → (name : List ℕ) → number_named (with_number ns (path x) (length xs + 1)) name ≡ number_at (position (λ k. bytes_eq (path k) name) (xs ++ x ∷ []))
paths_added path ns xs x h name =
    one_more_path ns (path x) name (length xs + 1) (number_named ns (path x)) refl
    ∙ ap (λ before. or_else before (cond (bytes_eq (path x) name) (Some (length xs + 1)) None)) (h name)
    ∙ sym (number_at-append (λ k. bytes_eq (path k) name) xs x)

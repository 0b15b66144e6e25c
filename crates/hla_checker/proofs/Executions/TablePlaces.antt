-- Where an execution is, and which state a name means after a change
use Rattle.std.proofs.Common.{◌≡◌, ℕ, suc, ◌<◌, ◌≤◌, ◌+◌, Bool, not, true, false, cond, List, [], ◌∷◌, ◌++◌, length, Option, Some, None, option_map, is_some, set, get_or, filter, refl, sym, ◌∙◌, ap, arith, subst}
use Rattle.std.specs.Prelude.{find, slice_get, nat_lt}
use Rattle.std.specs.Option.{option_or}
use Rattle.std.proofs.lemmas.Bool.Decides.{nat_tests}
use Rattle.std.proofs.lemmas.List.Folds.{find-append}
use Rattle.std.proofs.lemmas.Option.{get_or_from_slice_get}
use Rattle.std.specs.List.{position, position_or_len}
use Rattle.std.specs.Str.{bytes_eq}
use Rattle.std.proofs.lemmas.Slice.Eq.{bytes_eq-Decides}
use Rattle.hla_machine.specs.Central.{Central}
use Rattle.hla_checker.specs.declared.table.NamedExecution.{NamedExecution}
use Rattle.hla_checker.specs.Table.{central_named, centrals_of}

abbrev pub set_central : (List ℕ → Option Central) → List ℕ → Option Central → List ℕ → Option Central
set_central t name c = λ other. cond (bytes_eq name other) c (t other)

-- two names are equal the same way round
pub apart_back : (a b : List ℕ) (t : Bool) → bytes_eq b a ≡ t → bytes_eq a b ≡ false → t ≡ false
apart_back a b true is apart = absurd (let same : b ≡ a = (bytes_eq-Decides b a).0 is in let there : bytes_eq a b ≡ true = (bytes_eq-Decides a b).1 (sym same) in let clash : true ≡ false = sym there ∙ apart in cc)
apart_back a b false is apart = refl

one_more : (n : ℕ) → 1 + n ≡ suc n
one_more n = omega arith

module _ (name : List ℕ) where
  abbrev named : NamedExecution → Bool
  named h = bytes_eq name h.name

  -- ---- the first of that name
  find_none : (hs : List NamedExecution) → length hs ≤ position_or_len named hs → find named hs ≡ None
  find_none [] is = refl
  find_none (h ∷ hs) is = go (find_none hs) (named h) refl is
    where
      go : (length hs ≤ position_or_len named hs → find named hs ≡ None) → (b : Bool) → named h ≡ b → suc (length hs) ≤ cond (not b) (1 + position_or_len named hs) 0 → cond b (Some h) (find named hs) ≡ None
      go rest true test same = absurd (omega (arith, same))
      go rest false test same = rest (omega (arith, same))

  find_there : (hs : List NamedExecution) → position_or_len named hs < length hs → (h : NamedExecution) × (slice_get hs (position_or_len named hs) ≡ Some h) × (find named hs ≡ Some h) × (h.name ≡ name)
  find_there [] lt = absurd (omega (arith, lt))
  find_there (h ∷ hs) lt = go (find_there hs) (named h) refl lt
    where
      go : (position_or_len named hs < length hs → (x : NamedExecution) × (slice_get hs (position_or_len named hs) ≡ Some x) × (find named hs ≡ Some x) × (x.name ≡ name)) → (b : Bool) → named h ≡ b → cond (not b) (1 + position_or_len named hs) 0 < suc (length hs)
          → (x : NamedExecution) × (slice_get (h ∷ hs) (cond (not b) (1 + position_or_len named hs) 0) ≡ Some x) × (cond b (Some h) (find named hs) ≡ Some x) × (x.name ≡ name)
      go rest true test less = (h, refl, refl, sym ((bytes_eq-Decides name h.name).0 test))
      go rest false test less =
          let there = rest (omega (arith, less)) in
          (there.0, ap (λ n. slice_get (h ∷ hs) n) (one_more (position_or_len named hs)) ∙ there.1, there.2, there.3)

  -- ---- another in its place
  module _ (other : List ℕ) (new : NamedExecution) (same : new.name ≡ name) where
    set_first : (b : Bool) → bytes_eq name other ≡ b → (h : NamedExecution) (hs : List NamedExecution) → h.name ≡ name
        → cond (bytes_eq other new.name) (Some new) (find (λ (x : NamedExecution). bytes_eq other x.name) hs) ≡ cond b (Some new) (cond (bytes_eq other h.name) (Some h) (find (λ (x : NamedExecution). bytes_eq other x.name) hs))
    set_first true test h hs is =
        let here : bytes_eq other new.name ≡ true = (bytes_eq-Decides other new.name).1 (sym ((bytes_eq-Decides name other).0 test) ∙ sym same) in
        ap (λ (b : Bool). cond b (Some new) (find (λ (x : NamedExecution). bytes_eq other x.name) hs)) here
    set_first false test h hs is =
        let off : bytes_eq other name ≡ false = apart_back name other (bytes_eq other name) refl test in
        ap (λ (n : List ℕ). cond (bytes_eq other n) (Some new) (find (λ (x : NamedExecution). bytes_eq other x.name) hs)) same
        ∙ ap (λ (b : Bool). cond b (Some new) (find (λ (x : NamedExecution). bytes_eq other x.name) hs)) off
        ∙ sym (ap (λ (n : List ℕ). cond (bytes_eq other n) (Some h) (find (λ (x : NamedExecution). bytes_eq other x.name) hs)) is ∙ ap (λ (b : Bool). cond b (Some h) (find (λ (x : NamedExecution). bytes_eq other x.name) hs)) off)

    pass_over : (b d : Bool) (h : NamedExecution) (rest : Option NamedExecution) → (b ≡ true → d ≡ false) → cond b (Some h) (cond d (Some new) rest) ≡ cond d (Some new) (cond b (Some h) rest)
    pass_over true true h rest apart = absurd (let clash : true ≡ false = apart refl in cc)
    pass_over true false h rest apart = refl
    pass_over false d h rest apart = refl

    find_set : (hs : List NamedExecution) → position_or_len named hs < length hs
        → find (λ (x : NamedExecution). bytes_eq other x.name) (set hs (position_or_len named hs) new) ≡ cond (bytes_eq name other) (Some new) (find (λ (x : NamedExecution). bytes_eq other x.name) hs)
    find_set [] lt = absurd (omega (arith, lt))
    find_set (h ∷ hs) lt = go (find_set hs) (named h) refl lt
      where
        go : (position_or_len named hs < length hs → find (λ (x : NamedExecution). bytes_eq other x.name) (set hs (position_or_len named hs) new) ≡ cond (bytes_eq name other) (Some new) (find (λ (x : NamedExecution). bytes_eq other x.name) hs)) → (b : Bool) → named h ≡ b → cond (not b) (1 + position_or_len named hs) 0 < suc (length hs)
            → find (λ (x : NamedExecution). bytes_eq other x.name) (set (h ∷ hs) (cond (not b) (1 + position_or_len named hs) 0) new) ≡ cond (bytes_eq name other) (Some new) (cond (bytes_eq other h.name) (Some h) (find (λ (x : NamedExecution). bytes_eq other x.name) hs))
        go rest true test less = set_first (bytes_eq name other) refl h hs (sym ((bytes_eq-Decides name h.name).0 test))
        go rest false test less =
            ap (λ n. find (λ (x : NamedExecution). bytes_eq other x.name) (set (h ∷ hs) n new)) (one_more (position_or_len named hs))
            ∙ ap (λ (o : Option NamedExecution). cond (bytes_eq other h.name) (Some h) o) (rest (omega (arith, less)))
            ∙ pass_over (bytes_eq other h.name) (bytes_eq name other) h (find (λ (x : NamedExecution). bytes_eq other x.name) hs)
            (λ is. (let here : other ≡ h.name = (bytes_eq-Decides other h.name).0 is in subst (λ (n : List ℕ). bytes_eq name n ≡ false) (sym here) test))

-- ---- where the code finds an execution
map_cond : (b : Bool) (new : NamedExecution) (o : Option NamedExecution) → option_map central_named (cond b (Some new) o) ≡ cond b (Some (central_named new)) (option_map central_named o)
map_cond true new o = refl
map_cond false new o = refl

placed : (hs : List NamedExecution) (k p n : ℕ) (b : Bool) → nat_lt p n ≡ b → cond b (Some p) None ≡ Some k → (k ≡ p) × (p < n)
placed hs k p n true test is = (let e : p ≡ k = cc in sym e, let t = test in grind (arith, nat_tests))
placed hs k p n false test is = cc

unplaced : (hs : List NamedExecution) (name : List ℕ) (b : Bool) → nat_lt (position_or_len (λ (h : NamedExecution). bytes_eq name h.name) hs) (length hs) ≡ b
    → cond b (Some (position_or_len (λ (h : NamedExecution). bytes_eq name h.name) hs)) None ≡ None → length hs ≤ position_or_len (λ (h : NamedExecution). bytes_eq name h.name) hs
unplaced hs name true test is = cc
unplaced hs name false test is = grind (arith, nat_tests)

-- no place, no execution
pub no_place : (hs : List NamedExecution) (name : List ℕ) → position (λ (h : NamedExecution). bytes_eq name h.name) hs ≡ None → centrals_of hs name ≡ None
no_place hs name is =
    ap (λ (o : Option NamedExecution). option_map central_named o) (find_none name hs (unplaced hs name (nat_lt (position_or_len (λ (h : NamedExecution). bytes_eq name h.name) hs) (length hs)) refl is))

-- a place is an execution
pub place_there : (hs : List NamedExecution) (name : List ℕ) (o : Option ℕ) → position (λ (h : NamedExecution). bytes_eq name h.name) hs ≡ o → is_some o ≡ is_some (centrals_of hs name)
place_there hs name None is = sym (ap is_some (no_place hs name is))
place_there hs name (Some k) is =
    let lt = (placed hs k _ _ (nat_lt (position_or_len (λ (h : NamedExecution). bytes_eq name h.name) hs) (length hs)) refl is).1 in
    let there = find_there name hs lt in
    sym (ap (λ (o : Option NamedExecution). is_some (option_map central_named o)) there.2)

module _ (hs : List NamedExecution) (name : List ℕ) (k : ℕ) (v : NamedExecution) (is : position (λ (h : NamedExecution). bytes_eq name h.name) hs ≡ Some k) (at : v ≡ get_or hs k v) where
  place_is : (k ≡ position_or_len (λ (h : NamedExecution). bytes_eq name h.name) hs) × (position_or_len (λ (h : NamedExecution). bytes_eq name h.name) hs < length hs)
  place_is = placed hs k _ _ (nat_lt (position_or_len (λ (h : NamedExecution). bytes_eq name h.name) hs) (length hs)) refl is

  pub found_there : (centrals_of hs name ≡ Some (central_named v)) × (v.name ≡ name)
  found_there =
      let there = find_there name hs place_is.1 in
      let same : v ≡ there.0 = at ∙ get_or_from_slice_get hs k there.0 v (ap (λ n. slice_get hs n) place_is.0 ∙ there.1) in
      (ap (λ (o : Option NamedExecution). option_map central_named o) (there.2 ∙ ap (λ (x : NamedExecution). Some x) (sym same)), ap (λ (x : NamedExecution). x.name) same ∙ there.3)

  pub table_with : (new : NamedExecution) → new.name ≡ name → centrals_of (set hs k new) ≡ set_central (centrals_of hs) name (Some (central_named new))
  table_with new same = λ i other. (
      ap (λ n. option_map central_named (find (λ (x : NamedExecution). bytes_eq other x.name) (set hs n new))) place_is.0
      ∙ ap (λ (o : Option NamedExecution). option_map central_named o) (find_set name other new same hs place_is.1)
      ∙ map_cond (bytes_eq name other) new (find (λ (x : NamedExecution). bytes_eq other x.name) hs)) i

-- ---- one more in the list
map_none : (o : Option NamedExecution) → option_map central_named o ≡ None → o ≡ None
map_none None is = refl
map_none (Some h) is = cc

or_none : (o : Option NamedExecution) → option_or o None ≡ o
or_none None = refl
or_none (Some h) = refl

module _ (hs : List NamedExecution) (name : List ℕ) (new : NamedExecution) (absent : centrals_of hs name ≡ None) (same : new.name ≡ name) where
  abbrev among : List ℕ → Option NamedExecution
  among other = find (λ (h : NamedExecution). bytes_eq other h.name) hs

  pushed_point : (other : List ℕ) (b : Bool) → bytes_eq name other ≡ b
      → option_map central_named (option_or (among other) (cond (bytes_eq other new.name) (Some new) None)) ≡ cond b (Some (central_named new)) (option_map central_named (among other))
  pushed_point other true test =
      let here : name ≡ other = (bytes_eq-Decides name other).0 test in
      let there : bytes_eq other new.name ≡ true = (bytes_eq-Decides other new.name).1 (sym here ∙ sym same) in
      let none : among other ≡ None = ap among (sym here) ∙ map_none (among name) absent in
      ap (λ (o : Option NamedExecution). option_map central_named (option_or o (cond (bytes_eq other new.name) (Some new) None))) none
      ∙ ap (λ (b : Bool). option_map central_named (cond b (Some new) None)) there
  pushed_point other false test =
      let off : bytes_eq other new.name ≡ false = ap (λ (n : List ℕ). bytes_eq other n) same ∙ apart_back name other (bytes_eq other name) refl test in
      ap (λ (b : Bool). option_map central_named (option_or (among other) (cond b (Some new) None))) off
      ∙ ap (λ (o : Option NamedExecution). option_map central_named o) (or_none (among other))

  pub table_pushed : centrals_of (hs ++ new ∷ []) ≡ set_central (centrals_of hs) name (Some (central_named new))
  table_pushed = λ i other. (
      ap (λ (o : Option NamedExecution). option_map central_named o) (find-append (λ (h : NamedExecution). bytes_eq other h.name) hs (new ∷ []))
      ∙ pushed_point other (bytes_eq name other) refl) i

-- ---- those of one name taken out
module _ (name other : List ℕ) where
  removed_true : bytes_eq name other ≡ true → (hs : List NamedExecution) → find (λ (h : NamedExecution). bytes_eq other h.name) (filter (λ (h : NamedExecution). not (bytes_eq name h.name)) hs) ≡ None
  removed_true test [] = refl
  removed_true test (h ∷ hs) = go (removed_true test hs) (bytes_eq name h.name) refl
    where
      go : find (λ (x : NamedExecution). bytes_eq other x.name) (filter (λ (x : NamedExecution). not (bytes_eq name x.name)) hs) ≡ None → (t : Bool) → bytes_eq name h.name ≡ t
          → find (λ (x : NamedExecution). bytes_eq other x.name) (cond (not t) (h ∷ filter (λ (x : NamedExecution). not (bytes_eq name x.name)) hs) (filter (λ (x : NamedExecution). not (bytes_eq name x.name)) hs)) ≡ None
      go rest true is = rest
      go rest false is =
          let here : name ≡ other = (bytes_eq-Decides name other).0 test in
          let off : bytes_eq other h.name ≡ false = ap (λ (n : List ℕ). bytes_eq n h.name) (sym here) ∙ is in
          ap (λ (b : Bool). cond b (Some h) (find (λ (x : NamedExecution). bytes_eq other x.name) (filter (λ (x : NamedExecution). not (bytes_eq name x.name)) hs))) off
          ∙ rest

  removed_false : bytes_eq name other ≡ false → (hs : List NamedExecution)
      → find (λ (h : NamedExecution). bytes_eq other h.name) (filter (λ (h : NamedExecution). not (bytes_eq name h.name)) hs) ≡ find (λ (h : NamedExecution). bytes_eq other h.name) hs
  removed_false test [] = refl
  removed_false test (h ∷ hs) = go (removed_false test hs) (bytes_eq name h.name) refl
    where
      go : find (λ (x : NamedExecution). bytes_eq other x.name) (filter (λ (x : NamedExecution). not (bytes_eq name x.name)) hs) ≡ find (λ (x : NamedExecution). bytes_eq other x.name) hs → (t : Bool) → bytes_eq name h.name ≡ t
          → find (λ (x : NamedExecution). bytes_eq other x.name) (cond (not t) (h ∷ filter (λ (x : NamedExecution). not (bytes_eq name x.name)) hs) (filter (λ (x : NamedExecution). not (bytes_eq name x.name)) hs))
          ≡ cond (bytes_eq other h.name) (Some h) (find (λ (x : NamedExecution). bytes_eq other x.name) hs)
      go rest true is =
          let here : name ≡ h.name = (bytes_eq-Decides name h.name).0 is in
          let off : bytes_eq other h.name ≡ false = ap (λ (n : List ℕ). bytes_eq other n) (sym here) ∙ apart_back name other (bytes_eq other name) refl test in
          rest ∙ sym (ap (λ (b : Bool). cond b (Some h) (find (λ (x : NamedExecution). bytes_eq other x.name) hs)) off)
      go rest false is = ap (λ (o : Option NamedExecution). cond (bytes_eq other h.name) (Some h) o) rest

  removed_point : (hs : List NamedExecution) (b : Bool) → bytes_eq name other ≡ b
      → option_map central_named (find (λ (h : NamedExecution). bytes_eq other h.name) (filter (λ (h : NamedExecution). not (bytes_eq name h.name)) hs))
      ≡ cond b None (option_map central_named (find (λ (h : NamedExecution). bytes_eq other h.name) hs))
  removed_point hs true test = ap (λ (o : Option NamedExecution). option_map central_named o) (removed_true test hs)
  removed_point hs false test = ap (λ (o : Option NamedExecution). option_map central_named o) (removed_false test hs)

pub table_removed : (hs : List NamedExecution) (name : List ℕ) → centrals_of (filter (λ (h : NamedExecution). not (bytes_eq name h.name)) hs) ≡ set_central (centrals_of hs) name None
table_removed hs name = λ i other. removed_point name other hs (bytes_eq name other) refl i

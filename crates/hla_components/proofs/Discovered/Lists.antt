-- Lists of discoveries: which objects are among them, and that none is there twice
use Rattle.std.proofs.Common.{◌≡◌, ◌≢◌, ◌⊎◌, ⊎_elim, ℕ, zero, suc, ◌<◌, refl, sym, subst, inl, inr, arith, List, [], ◌∷◌, ◌++◌, Option, Some, None, drop}
use Rattle.std.proofs.lemmas.Bool.{cases_eq}
use Rattle.std.proofs.lemmas.List.Elements.{filter_map-append, All-head, All-tail, All-nil, All-cons}
use Rattle.std.specs.List.{All, filter_map, cons_option}
use Rattle.hla_base.specs.Tables.{numbers_below}
use Rattle.hla_base.specs.declared.content.Discovery.{Discovery}
use Rattle.hla_components.specs.Invariant.{EachOf}
use Rattle.hla_components.proofs.Basics.Each.{EachOf-append, EachOf-weaker}

-- the object is to be discovered among these
abbrev pub Among : ℕ → List Discovery → Type 0
Among o [] = ⊥
Among o (d ∷ ds) = (d.object ≡ o) ⊎ Among o ds

abbrev pub NotAmong : ℕ → List Discovery → Type 0
NotAmong o ds = EachOf (λ (d : Discovery). d.object ≢ o) ds

-- no object is among them twice
abbrev pub IsEachOnce : List Discovery → Type 0
IsEachOnce [] = Unit {0}
IsEachOnce (d ∷ ds) = NotAmong d.object ds × IsEachOnce ds

pub not_both : (o : ℕ) (ds : List Discovery) → Among o ds → NotAmong o ds → ⊥
not_both o [] a n = a
not_both o (d ∷ ds) (inl e) n = n.0 e
not_both o (d ∷ ds) (inr a) n = not_both o ds a n.1

pub among_front : (o : ℕ) (xs ys : List Discovery) → Among o xs → Among o (xs ++ ys)
among_front o [] ys a = absurd a
among_front o (d ∷ ds) ys (inl e) = inl e
among_front o (d ∷ ds) ys (inr a) = inr (among_front o ds ys a)

pub among_back : (o : ℕ) (xs ys : List Discovery) → Among o ys → Among o (xs ++ ys)
among_back o [] ys a = a
among_back o (d ∷ ds) ys a = inr (among_back o ds ys a)

pub each_drop : (P : Discovery → Type 0) (ds : List Discovery) → EachOf P ds → EachOf P (drop 1 ds)
each_drop P [] e = tt
each_drop P (d ∷ ds) e = e.1

pub apart_drop : (ds : List Discovery) → IsEachOnce ds → IsEachOnce (drop 1 ds)
apart_drop [] a = tt
apart_drop (d ∷ ds) a = a.1

pub each_from_all : (P : Discovery → Type 0) (ds : List Discovery) → All P ds → EachOf P ds
each_from_all P [] a = tt
each_from_all P (d ∷ ds) a = (All-head P d ds a, each_from_all P ds (All-tail P d ds a))

pub all_from_each : (P : Discovery → Type 0) (ds : List Discovery) → EachOf P ds → All P ds
all_from_each P [] e = All-nil P
all_from_each P (d ∷ ds) e = All-cons P d ds e.0 (all_from_each P ds e.1)

-- those of which P holds are other objects than those of which Q holds
pub apart_append : (P Q : ℕ → Type 0) (xs ys : List Discovery) → ((o : ℕ) → P o → Q o → ⊥) → EachOf (λ (d : Discovery). P d.object) xs → EachOf (λ (d : Discovery). Q d.object) ys
    → IsEachOnce xs → IsEachOnce ys → IsEachOnce (xs ++ ys)
apart_append P Q [] ys never p q a b = b
apart_append P Q (d ∷ ds) ys never p q a b = (
  EachOf-append _ ds ys a.0 (EachOf-weaker _ _ ys (λ (x : Discovery) (r : Q x.object) (same : x.object ≡ d.object). never d.object p.0 (subst Q same r)) q),
  apart_append P Q ds ys never p.1 q a.1 b,
)

-- ---- those that are made, by rising number
module _ (made : ℕ → Option Discovery) (names : (n : ℕ) (d : Discovery) → made n ≡ Some d → d.object ≡ n) where
  one_below : (n m : ℕ) (o : Option Discovery) → made m ≡ o → m < n → EachOf (λ (d : Discovery). d.object < n) (cons_option o [])
  one_below n m None is l = tt
  one_below n m (Some d) is l = (subst (λ (k : ℕ). k < n) (sym (names m d is)) l, tt)

  one_apart : (o : Option Discovery) → IsEachOnce (cons_option o [])
  one_apart None = tt
  one_apart (Some d) = (tt, tt)

  one_is : (m : ℕ) (o : Option Discovery) → made m ≡ o → EachOf (λ (d : Discovery). d.object ≡ m) (cons_option o [])
  one_is m None is = tt
  one_is m (Some d) is = (names m d is, tt)

  last : (n : ℕ) → filter_map made (numbers_below (suc n)) ≡ filter_map made (numbers_below n) ++ cons_option (made n) []
  unfolding numbers_below
  last n = filter_map-append made (numbers_below n) (n ∷ [])

  made_below : (n : ℕ) → EachOf (λ (d : Discovery). d.object < n) (filter_map made (numbers_below n))
  unfolding numbers_below
  made_below zero = tt
  made_below (suc n) = subst (EachOf (λ (d : Discovery). d.object < suc n)) (sym (last n))
      (EachOf-append _ (filter_map made (numbers_below n)) (cons_option (made n) []) (EachOf-weaker _ _ (filter_map made (numbers_below n)) (λ (d : Discovery) (l : d.object < n). omega (arith, l)) (made_below n))
      (one_below (suc n) n (made n) refl (omega arith)))

  pub made_apart : (n : ℕ) → IsEachOnce (filter_map made (numbers_below n))
  unfolding numbers_below
  made_apart zero = tt
  made_apart (suc n) = subst IsEachOnce (sym (last n))
      (apart_append (λ o. o < n) (λ o. o ≡ n) (filter_map made (numbers_below n)) (cons_option (made n) []) (λ o l e. absurd (omega (arith, l, e))) (made_below n) (one_is n (made n) refl) (made_apart n) (one_apart (made n)))

  made_here : (m : ℕ) (o : Option Discovery) (d : Discovery) → made m ≡ o → o ≡ Some d → Among m (cons_option o [])
  made_here m None d is some = absurd (cc)
  made_here m (Some x) d is some = inl (names m x is)

  pub made_among : (n m : ℕ) (d : Discovery) → m < n → made m ≡ Some d → Among m (filter_map made (numbers_below n))
  unfolding numbers_below
  made_among zero m d l is = absurd (omega (arith, l))
  made_among (suc n) m d l is = subst (Among m) (sym (last n)) (⊎_elim
      (λ (e : n ≡ m). among_back m (filter_map made (numbers_below n)) (cons_option (made n) []) (subst (λ (k : ℕ). Among m (cons_option (made k) [])) (sym e) (made_here m (made m) d refl is)))
      (λ (ne : n ≢ m). among_front m (filter_map made (numbers_below n)) (cons_option (made n) []) (made_among n m d (omega (arith, l, ne)) is))
      (cases_eq n m))

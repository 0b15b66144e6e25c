-- Open points by label, after the changes that steps make of them
use Rattle.std.proofs.Common.{◌≡◌, ⊎_elim, ℕ, cond, not, ◌||◌, Bool, true, false, refl, sym, ap, subst, ◌∙◌, List, [], ◌∷◌, ◌++◌, Option, Some, None, is_some, option_map, map}
use Rattle.std.proofs.lemmas.Bool.{cases_Bool, or_parts, or_from, or_right, both_ways}
use Rattle.std.proofs.lemmas.Slice.Eq.{bytes_eq-Decides}
use Rattle.std.specs.List.{filter}
use Rattle.std.specs.Str.{bytes_eq}
use Rattle.hla_synchronization.specs.Points.{Point, is_labelled, point_labelled, is_open, with_point}

-- ---- labels
pub same_label : (l : List ℕ) → bytes_eq l l ≡ true
same_label l = (bytes_eq-Decides l l).1 refl

pub labels_same : (a b : List ℕ) → bytes_eq a b ≡ true → a ≡ b
labels_same a b = (bytes_eq-Decides a b).0

pub labels_turn : (a b : List ℕ) → bytes_eq a b ≡ false → bytes_eq b a ≡ false
labels_turn a b fails = ⊎_elim
    (λ (y : bytes_eq b a ≡ true). absurd (both_ways (bytes_eq a b) fails (subst (λ (x : List ℕ). bytes_eq a x ≡ true) (sym (labels_same b a y)) (same_label a))))
    (λ (n : bytes_eq b a ≡ false). n)
    (cases_Bool (bytes_eq b a))

-- ---- one more point ahead
pub open_cons : (l : List ℕ) (p : Point) (ps : List Point) → is_open l (p ∷ ps) ≡ (is_labelled l p || is_open l ps)
open_cons l p ps = ⊎_elim
    (λ (y : is_labelled l p ≡ true). rw y refl)
    (λ (n : is_labelled l p ≡ false). rw n refl)
    (cases_Bool (is_labelled l p))

open_ahead : (l : List ℕ) (p : Point) (ps : List Point) → is_labelled l p ≡ true → is_open l (p ∷ ps) ≡ true
open_ahead l p ps y = rw y refl

open_behind : (l : List ℕ) (p : Point) (ps : List Point) → is_open l ps ≡ true → is_open l (p ∷ ps) ≡ true
open_behind l p ps y = open_cons l p ps ∙ or_right (is_labelled l p) (is_open l ps) y

closed_cons : (l : List ℕ) (p : Point) (ps : List Point) → is_open l (p ∷ ps) ≡ false → (is_labelled l p ≡ false) × (is_open l ps ≡ false)
closed_cons l p ps fails = or_parts (is_labelled l p) (is_open l ps) (sym (open_cons l p ps) ∙ fails)

closed_from : (l : List ℕ) (p : Point) (ps : List Point) → is_labelled l p ≡ false → is_open l ps ≡ false → is_open l (p ∷ ps) ≡ false
closed_from l p ps a b = open_cons l p ps ∙ or_from (is_labelled l p) (is_open l ps) a b

-- ---- what is found
pub some_of : {X : Type 0} (o : Option X) → is_some o ≡ true → (x : X) × (o ≡ Some x)
some_of (Some x) is = (x, refl)
some_of None is = absurd (cc)

pub none_of : {X : Type 0} (o : Option X) → is_some o ≡ false → o ≡ None
none_of (Some x) is = absurd (cc)
none_of None is = refl

pub found_open : (l : List ℕ) (ps : List Point) (p : Point) → point_labelled l ps ≡ Some p → is_open l ps ≡ true
found_open l ps p is = ap is_some is

pub found_label : (l : List ℕ) (ps : List Point) (p : Point) → point_labelled l ps ≡ Some p → p.label ≡ l
found_label l [] p is = absurd (cc)
found_label l (x ∷ ps) p is = ⊎_elim
    (λ (y : is_labelled l x ≡ true). let here : Some x ≡ Some p = rw y at is in let same : x ≡ p = cc in subst (λ (q : Point). q.label ≡ l) same (labels_same x.label l y))
    (λ (n : is_labelled l x ≡ false). found_label l ps p (rw n at is))
    (cases_Bool (is_labelled l x))

-- ---- labels apart
abbrev pub AreApart : List Point → Type 0
AreApart [] = Unit {0}
AreApart (p ∷ ps) = (is_open p.label ps ≡ false) × AreApart ps

-- a label that is open behind a point is not its
behind_other : (l : List ℕ) (p : Point) (ps : List Point) → is_open p.label ps ≡ false → is_open l ps ≡ true → is_labelled l p ≡ false
behind_other l p ps none opened = ⊎_elim
    (λ (y : is_labelled l p ≡ true). absurd (both_ways (is_open p.label ps) none (subst (λ (x : List ℕ). is_open x ps ≡ true) (sym (labels_same p.label l y)) opened)))
    (λ (n : is_labelled l p ≡ false). n)
    (cases_Bool (is_labelled l p))

-- ---- one point changed
module _ (change : Point → Point) (keeps : (p : Point) → (change p).label ≡ p.label) where
  abbrev changed : List ℕ → List ℕ → Point → Point
  changed k l p = cond (bytes_eq k l) (change p) p

  unchanged : (b : Bool) (o : Option Point) → b ≡ false → option_map (λ p. cond b (change p) p) o ≡ o
  unchanged b None fails = refl
  unchanged b (Some p) fails = rw fails refl

  pub found_changed : (k l : List ℕ) (ps : List Point) → point_labelled k (with_point change l ps) ≡ option_map (λ p. cond (bytes_eq k l) (change p) p) (point_labelled k ps)
  found_changed k l [] = refl
  found_changed k l (p ∷ ps) = ⊎_elim
      (λ (y : is_labelled l p ≡ true). ⊎_elim
      (λ (here : is_labelled k p ≡ true).
      let same : k ≡ l = sym (labels_same p.label k here) ∙ labels_same p.label l y in
      let both : bytes_eq k l ≡ true = subst (λ (x : List ℕ). bytes_eq k x ≡ true) same (same_label k) in
      let there : is_labelled k (change p) ≡ true = subst (λ (x : List ℕ). bytes_eq x k ≡ true) (sym (keeps p)) here in
      rw (y, there, here, both) refl)
      (λ (other : is_labelled k p ≡ false).
      let apart : bytes_eq k l ≡ false = labels_turn l k (subst (λ (x : List ℕ). bytes_eq x k ≡ false) (labels_same p.label l y) other) in
      let away : is_labelled k (change p) ≡ false = subst (λ (x : List ℕ). bytes_eq x k ≡ false) (sym (keeps p)) other in
      rw (y, away, other) (sym (unchanged (bytes_eq k l) (point_labelled k ps) apart)))
      (cases_Bool (is_labelled k p)))
      (λ (n : is_labelled l p ≡ false). ⊎_elim
      (λ (here : is_labelled k p ≡ true).
      let apart : bytes_eq k l ≡ false = subst (λ (x : List ℕ). bytes_eq x l ≡ false) (labels_same p.label k here) n in
      rw (n, here, apart) refl)
      (λ (other : is_labelled k p ≡ false). rw (n, other) (found_changed k l ps))
      (cases_Bool (is_labelled k p)))
      (cases_Bool (is_labelled l p))

  some_mapped : (f : Point → Point) (o : Option Point) → is_some (option_map f o) ≡ is_some o
  some_mapped f None = refl
  some_mapped f (Some p) = refl

  pub open_changed : (k l : List ℕ) (ps : List Point) → is_open k (with_point change l ps) ≡ is_open k ps
  open_changed k l ps = ap is_some (found_changed k l ps) ∙ some_mapped (changed k l) (point_labelled k ps)

  pub labels_changed : (l : List ℕ) (ps : List Point) → map (λ (p : Point). p.label) (with_point change l ps) ≡ map (λ (p : Point). p.label) ps
  labels_changed l [] = refl
  labels_changed l (p ∷ ps) = ⊎_elim
      (λ (y : is_labelled l p ≡ true). rw y (ap (λ (x : List ℕ). x ∷ map (λ (p : Point). p.label) ps) (keeps p)))
      (λ (n : is_labelled l p ≡ false). rw n (ap (λ ls. p.label ∷ ls) (labels_changed l ps)))
      (cases_Bool (is_labelled l p))

  pub apart_changed : (l : List ℕ) (ps : List Point) → AreApart ps → AreApart (with_point change l ps)
  apart_changed l [] apart = tt
  apart_changed l (p ∷ ps) apart = ⊎_elim
      (λ (y : is_labelled l p ≡ true). rw y (subst (λ (x : List ℕ). is_open x ps ≡ false) (sym (keeps p)) apart.0, apart.1))
      (λ (n : is_labelled l p ≡ false). rw n (open_changed p.label l ps ∙ apart.0, apart_changed l ps apart.1))
      (cases_Bool (is_labelled l p))

-- ---- one point more
pub found_before : (k : List ℕ) (ps qs : List Point) (p : Point) → point_labelled k ps ≡ Some p → point_labelled k (ps ++ qs) ≡ Some p
found_before k [] qs p is = absurd (cc)
found_before k (x ∷ ps) qs p is = ⊎_elim
    (λ (y : is_labelled k x ≡ true). rw y (rw y at is))
    (λ (n : is_labelled k x ≡ false). rw n (found_before k ps qs p (rw n at is)))
    (cases_Bool (is_labelled k x))

pub found_behind : (k : List ℕ) (ps qs : List Point) → is_open k ps ≡ false → point_labelled k (ps ++ qs) ≡ point_labelled k qs
found_behind k [] qs fails = refl
found_behind k (x ∷ ps) qs fails = let parts = closed_cons k x ps fails in let first = parts.0 in rw first (found_behind k ps qs parts.1)

pub apart_more : (ps : List Point) (q : Point) → is_open q.label ps ≡ false → AreApart ps → AreApart (ps ++ (q ∷ []))
apart_more [] q none apart = (refl, tt)
apart_more (p ∷ ps) q none apart =
    let parts = closed_cons q.label p ps none in
    let first : is_open p.label (q ∷ []) ≡ false = closed_from p.label q [] (labels_turn p.label q.label parts.0) refl in
    (ap is_some (found_behind p.label ps (q ∷ []) apart.0) ∙ first, apart_more ps q parts.1 apart.1)

-- ---- some points left
pub closed_left : (k : List ℕ) (keep : Point → Bool) (ps : List Point) → is_open k ps ≡ false → is_open k (filter keep ps) ≡ false
closed_left k keep [] fails = refl
closed_left k keep (p ∷ ps) fails =
    let parts = closed_cons k p ps fails in
    let rest = closed_left k keep ps parts.1 in
    ⊎_elim
    (λ (y : keep p ≡ true). rw y (closed_from k p (filter keep ps) parts.0 rest))
    (λ (n : keep p ≡ false). rw n rest)
    (cases_Bool (keep p))

pub apart_left : (keep : Point → Bool) (ps : List Point) → AreApart ps → AreApart (filter keep ps)
apart_left keep [] apart = tt
apart_left keep (p ∷ ps) apart = ⊎_elim
    (λ (y : keep p ≡ true). rw y (closed_left p.label keep ps apart.0, apart_left keep ps apart.1))
    (λ (n : keep p ≡ false). rw n (apart_left keep ps apart.1))
    (cases_Bool (keep p))

-- what is found among those that are left is what was found
pub found_left : (k : List ℕ) (keep : Point → Bool) (ps : List Point) (p : Point) → AreApart ps → point_labelled k (filter keep ps) ≡ Some p → (point_labelled k ps ≡ Some p) × (keep p ≡ true)
found_left k keep [] p apart is = absurd (cc)
found_left k keep (x ∷ ps) p apart is = ⊎_elim
    (λ (y : keep x ≡ true).
    let there : point_labelled k (x ∷ filter keep ps) ≡ Some p = rw y at is in
    ⊎_elim
    (λ (here : is_labelled k x ≡ true). let found : Some x ≡ Some p = rw here at there in let same : x ≡ p = cc in (rw here found, subst (λ (q : Point). keep q ≡ true) same y))
    (λ (other : is_labelled k x ≡ false). let rest = found_left k keep ps p apart.1 (rw other at there) in (rw other rest.0, rest.1))
    (cases_Bool (is_labelled k x)))
    (λ (n : keep x ≡ false).
    let rest = found_left k keep ps p apart.1 (rw n at is) in
    let other : is_labelled k x ≡ false = behind_other k x ps apart.0 (found_open k ps p rest.0) in
    (rw other rest.0, rest.1))
    (cases_Bool (keep x))

-- a point is left if it is to be kept
pub left_kept : (k : List ℕ) (keep : Point → Bool) (ps : List Point) (p : Point) → AreApart ps → point_labelled k ps ≡ Some p → is_open k (filter keep ps) ≡ keep p
left_kept k keep [] p apart is = absurd (cc)
left_kept k keep (x ∷ ps) p apart is = ⊎_elim
    (λ (here : is_labelled k x ≡ true).
    let found : Some x ≡ Some p = rw here at is in
    let same : x ≡ p = cc in
    let none : is_open k ps ≡ false = subst (λ (l : List ℕ). is_open l ps ≡ false) (labels_same x.label k here) apart.0 in
    subst (λ (q : Point). is_open k (filter keep (x ∷ ps)) ≡ keep q) same (⊎_elim
    (λ (y : keep x ≡ true). rw (y, here) refl)
    (λ (n : keep x ≡ false). rw n (closed_left k keep ps none))
    (cases_Bool (keep x))))
    (λ (other : is_labelled k x ≡ false).
    let rest = left_kept k keep ps p apart.1 (rw other at is) in
    ⊎_elim
    (λ (y : keep x ≡ true). rw (y, other) rest)
    (λ (n : keep x ≡ false). rw n rest)
    (cases_Bool (keep x)))
    (cases_Bool (is_labelled k x))

-- ---- labels that are open, and those that are not
abbrev pub labels_of : List Point → List (List ℕ)
labels_of ps = map (λ (p : Point). p.label) ps

pub no_label : (ps : List Point) (t : List ℕ → Bool) → ((l : List ℕ) → is_open l ps ≡ true → t l ≡ true) → filter (λ l. not (t l)) (labels_of ps) ≡ []
no_label [] t all = refl
no_label (p ∷ ps) t all =
    let first : t p.label ≡ true = all p.label (open_ahead p.label p ps (same_label p.label)) in
    rw first (no_label ps t (λ l opened. all l (open_behind l p ps opened)))

pub each_label : (ps : List Point) (t : List ℕ → Bool) → ((l : List ℕ) → is_open l ps ≡ true → t l ≡ false) → filter (λ l. not (t l)) (labels_of ps) ≡ labels_of ps
each_label [] t none = refl
each_label (p ∷ ps) t none =
    let first : t p.label ≡ false = none p.label (open_ahead p.label p ps (same_label p.label)) in
    rw first (ap (λ ls. p.label ∷ ls) (each_label ps t (λ l opened. none l (open_behind l p ps opened))))

-- the labels that are not open among those that are left are those of the points that are not
pub closed_labels : (keep : Point → Bool) (ps : List Point) (t : List ℕ → Bool) → AreApart ps → ((l : List ℕ) → is_open l ps ≡ true → t l ≡ is_open l (filter keep ps))
    → filter (λ l. not (t l)) (labels_of ps) ≡ labels_of (filter (λ p. not (keep p)) ps)
closed_labels keep [] t apart same = refl
closed_labels keep (p ∷ ps) t apart same =
    let first : t p.label ≡ is_open p.label (filter keep (p ∷ ps)) = same p.label (open_ahead p.label p ps (same_label p.label)) in
    ⊎_elim
    (λ (y : keep p ≡ true).
    let at : t p.label ≡ true = first ∙ rw y (open_ahead p.label p (filter keep ps) (same_label p.label)) in
    rw (at, y) (closed_labels keep ps t apart.1 (λ l opened.
    let other : is_labelled l p ≡ false = behind_other l p ps apart.0 opened in
    let before : t l ≡ is_open l (p ∷ filter keep ps) = rw y at (same l (open_behind l p ps opened)) in
    before ∙ rw other refl)))
    (λ (n : keep p ≡ false).
    let at : t p.label ≡ false = first ∙ rw n (closed_left p.label keep ps apart.0) in
    rw (at, n) (ap (λ ls. p.label ∷ ls) (closed_labels keep ps t apart.1 (λ l opened. rw n at (same l (open_behind l p ps opened))))))
    (cases_Bool (keep p))

-- The points that rows are read as, and what a change of the rows does to them
use Rattle.std.proofs.Common.{◌≡◌, ℕ, zero, suc, ◌+◌, ◌<◌, ◌≤◌, ltb, true, false, cond, Bool, not, ◌&&◌, List, [], ◌∷◌, ◌++◌, length, get_or, set, Option, Some, None, is_some, filter, find, option_map, refl, sym, ap, ◌∙◌, add-one, arith}
use Rattle.std.specs.List.{position, position_or_len, list_all}
use Rattle.std.specs.Option.{option_map_or}
use Rattle.std.specs.Str.{bytes_eq}
use Rattle.std.proofs.lemmas.Bool.{ltb-true, ltb-false}
use Rattle.std.proofs.lemmas.List.Elements.{filter-append}
use Rattle.std.proofs.lemmas.List.Folds.{list_all-append}
use Rattle.hla_base.specs.Tables.{numbers_below}
use Rattle.hla_synchronization.specs.declared.open_points.OpenPoint.{OpenPoint}
use Rattle.hla_synchronization.specs.Points.{Point, is_labelled, is_open, may_achieve, is_awaited, with_point}
use Rattle.hla_synchronization.specs.OpenPoints.{point_of, points_of}

abbrev pub has_label : List ℕ → OpenPoint → Bool
has_label label p = bytes_eq p.label label

-- ---- by label
found_as : (label : List ℕ) (points : List OpenPoint) → find (is_labelled label) (points_of points) ≡ option_map point_of (find (has_label label) points)
found_as label [] = refl
found_as label (p ∷ ps) = by (has_label label p) (found_as label ps)
  where
    by : (b : Bool) → find (is_labelled label) (points_of ps) ≡ option_map point_of (find (has_label label) ps) →
        cond b (Some (point_of p)) (find (is_labelled label) (points_of ps)) ≡ option_map point_of (cond b (Some p) (find (has_label label) ps))
    by true rest = refl
    by false rest = rest

some_read : {X Y : Type 0} (read : X → Y) (o : Option X) → is_some (option_map read o) ≡ is_some o
some_read read None = refl
some_read read (Some x) = refl

pub is_open_as : {X : Type 0} (label : List ℕ) (points : List OpenPoint) (read : X → OpenPoint) (found : Option X) → option_map read found ≡ find (has_label label) points → is_some found ≡ is_open label (points_of points)
is_open_as label points read found is =
    sym (some_read read found) ∙ ap is_some is ∙ sym (some_read point_of (find (has_label label) points)) ∙ ap is_some (sym (found_as label points))

pub may_achieve_as : (f : ℕ) (label : List ℕ) (points : List OpenPoint) (found : Option OpenPoint) → found ≡ find (has_label label) points → option_map_or (λ p. is_awaited f (point_of p)) found false ≡ may_achieve f label (points_of points)
may_achieve_as f label points found is =
    ap (λ o. option_map_or (λ p. is_awaited f (point_of p)) o false) is ∙ by (find (has_label label) points)
    ∙ ap (λ o. option_map_or (is_awaited f) o false) (sym (found_as label points))
  where
    by : (o : Option OpenPoint) → option_map_or (λ p. is_awaited f (point_of p)) o false ≡ option_map_or (is_awaited f) (option_map point_of o) false
    by None = refl
    by (Some p) = refl

-- ---- one point changed
pub place_within : (label : List ℕ) (points : List OpenPoint) (i : ℕ) → Some i ≡ position (has_label label) points → (i ≡ position_or_len (has_label label) points) × (i < length points)
place_within label points i e = by (position_or_len (has_label label) points) (length points) _ refl e
  where
    by : (n k : ℕ) (b : Bool) → ltb n k ≡ b → Some i ≡ cond b (Some n) None → (i ≡ n) × (i < k)
    by n k true is e = let same : i ≡ n = cc in (same, rw same (ltb-true n k is))
    by n k false is e = absurd (cc)

module _ (change : Point → Point) (label : List ℕ) where
  changed_at : (points : List OpenPoint) (i : ℕ) (x y : OpenPoint) → i ≡ position_or_len (has_label label) points → i < length points → x ≡ get_or points i x → point_of y ≡ change (point_of x) → points_of (set points i y) ≡ with_point change label (points_of points)
  changed_at [] i x y at within read changed = absurd (omega arith)
  changed_at (p ∷ ps) i x y at within read changed = by (has_label label p) i at within read (λ j here below same. changed_at ps j x y here below same changed)
    where
      by : (b : Bool) (i : ℕ) → i ≡ cond (not b) (1 + position_or_len (has_label label) ps) 0 → i < length (p ∷ ps) → x ≡ get_or (p ∷ ps) i x →
          ((j : ℕ) → j ≡ position_or_len (has_label label) ps → j < length ps → x ≡ get_or ps j x → points_of (set ps j y) ≡ with_point change label (points_of ps)) →
          points_of (set (p ∷ ps) i y) ≡ cond b (change (point_of p) ∷ points_of ps) (point_of p ∷ with_point change label (points_of ps))
      by true zero at within read rest = ap (λ (q : Point). q ∷ points_of ps) (changed ∙ ap (λ q. change (point_of q)) read)
      by true (suc i) at within read rest = absurd (omega arith)
      by false zero at within read rest = absurd (omega arith)
      by false (suc i) at within read rest = ap (λ (qs : List Point). point_of p ∷ qs) (rest i (omega arith) (omega arith) read)

  pub changed_found : (points : List OpenPoint) (i : ℕ) (x y : OpenPoint) → Some i ≡ position (has_label label) points → x ≡ get_or points i x → point_of y ≡ change (point_of x) → points_of (set points i y) ≡ with_point change label (points_of points)
  changed_found points i x y found read changed = let at = place_within label points i found in changed_at points i x y at.0 at.1 read changed

  unchanged_at : (points : List OpenPoint) → length points ≤ position_or_len (has_label label) points → points_of points ≡ with_point change label (points_of points)
  unchanged_at [] past = refl
  unchanged_at (p ∷ ps) past = by (has_label label p) past (λ below. unchanged_at ps below)
    where
      by : (b : Bool) → length (p ∷ ps) ≤ cond (not b) (1 + position_or_len (has_label label) ps) 0 →
          (length ps ≤ position_or_len (has_label label) ps → points_of ps ≡ with_point change label (points_of ps)) →
          points_of (p ∷ ps) ≡ cond b (change (point_of p) ∷ points_of ps) (point_of p ∷ with_point change label (points_of ps))
      by true past rest = absurd (omega arith)
      by false past rest = ap (λ (qs : List Point). point_of p ∷ qs) (rest (omega arith))

  pub unchanged_missed : (points : List OpenPoint) → None ≡ position (has_label label) points → points_of points ≡ with_point change label (points_of points)
  unchanged_missed points missed = unchanged_at points (by (position_or_len (has_label label) points) (length points) _ refl missed)
    where
      by : (n k : ℕ) (b : Bool) → ltb n k ≡ b → None ≡ cond {A = Option ℕ} b (Some n) None → k ≤ n
      by n k true is e = absurd (cc)
      by n k false is e = ltb-false n k is

-- ---- those that pass a test
pub filtered_as : (test : Point → Bool) (points : List OpenPoint) → points_of (filter (λ p. test (point_of p)) points) ≡ filter test (points_of points)
filtered_as test [] = refl
filtered_as test (p ∷ ps) = by (test (point_of p)) (filtered_as test ps)
  where
    by : (b : Bool) → points_of (filter (λ p. test (point_of p)) ps) ≡ filter test (points_of ps) →
        points_of (cond b (p ∷ filter (λ p. test (point_of p)) ps) (filter (λ p. test (point_of p)) ps)) ≡ cond b (point_of p ∷ filter test (points_of ps)) (filter test (points_of ps))
    by true rest = ap (λ (qs : List Point). point_of p ∷ qs) rest
    by false rest = rest

-- ---- one more member
pub all_more : (members achieved : ℕ → Bool) (n : ℕ) → list_all achieved (filter members (numbers_below (n + 1))) ≡ (list_all achieved (filter members (numbers_below n)) && not (members n && not (achieved n)))
unfolding numbers_below
all_more members achieved n = rw (add-one n) (ap (list_all achieved) (filter-append members (numbers_below n) (n ∷ [])) ∙ list_all-append achieved (filter members (numbers_below n)) (filter members (n ∷ []))
    ∙ ap (λ b. list_all achieved (filter members (numbers_below n)) && b) (by (members n) (achieved n) refl))
  where
    by : (m a : Bool) → achieved n ≡ a → list_all achieved (cond m (n ∷ []) []) ≡ not (m && not a)
    by false a is = refl
    by true true is = rw is refl
    by true false is = rw is refl

pub all_none : (members achieved : ℕ → Bool) → list_all achieved (filter members (numbers_below 0)) ≡ true
unfolding numbers_below
all_none members achieved = refl

-- Lists of events in which no sender and serial comes twice: what an insertion and a removal leave to be found
use Rattle.std.proofs.Common.{◌≡◌, ℕ, suc, Bool, true, false, cond, eqb, ◌&&◌, List, [], ◌∷◌, length, Option, Some, None, refl, sym, ap, ◌∙◌, arith}
use Rattle.std.proofs.lemmas.Bool.Decides.{nat_tests}
use Rattle.hla_base.specs.declared.content.Event.{Event}
use Rattle.hla_component_rules.specs.Queues.{is_before, insert_event, is_event, find_event, remove_event}
use Rattle.hla_order_queues.specs.Kept.{IsUnique}

-- the tests
is_event-turned : (x y : Event) → is_event x.sender x.serial y ≡ is_event y.sender y.serial x
is_event-turned x y = grind (arith, nat_tests)

is_event_both : (g m : ℕ) (x y : Event) → is_event g m x ≡ true → is_event g m y ≡ true → is_event x.sender x.serial y ≡ true
is_event_both g m x y p q = grind (arith, nat_tests)

is_event_other : (a b g m : ℕ) (y : Event) → eqb g a && eqb m b ≡ false → is_event g m y ≡ true → is_event a b y ≡ false
is_event_other a b g m y apart h = grind (arith, nat_tests)

pub names_equal : (g m : ℕ) (x : Event) → is_event g m x ≡ true → (g ≡ x.sender) × (m ≡ x.serial)
names_equal g m x h = (grind (arith, nat_tests), grind (arith, nat_tests))

-- the first of a list
missed_at : (b : Bool) (y : Event) (o : Option Event) → cond b (Some y) o ≡ None → (b ≡ false) × (o ≡ None)
missed_at true y o e = absurd (cc)
missed_at false y o e = (refl, e)

pub missed_head : (g m : ℕ) (y : Event) (ys : List Event) → find_event g m (y ∷ ys) ≡ None → is_event g m y ≡ false
unfolding find_event
missed_head g m y ys h = (missed_at (is_event g m y) y (find_event g m ys) h).0

pub missed_later : (g m : ℕ) (y : Event) (ys : List Event) → find_event g m (y ∷ ys) ≡ None → find_event g m ys ≡ None
unfolding find_event
missed_later g m y ys h = (missed_at (is_event g m y) y (find_event g m ys) h).1

named_at : (b : Bool) (g m : ℕ) (x y : Event) (o : Option Event) → is_event g m y ≡ b → cond b (Some y) o ≡ Some x → (o ≡ Some x → is_event g m x ≡ true) → is_event g m x ≡ true
named_at true g m x y o is e later = let same : y ≡ x = cc in ap (is_event g m) (sym same) ∙ is
named_at false g m x y o is e later = later e

pub find_event_name : (g m : ℕ) (xs : List Event) (x : Event) → find_event g m xs ≡ Some x → is_event g m x ≡ true
unfolding find_event
find_event_name g m [] x h = absurd (cc)
find_event_name g m (y ∷ ys) x h = named_at (is_event g m y) g m x y (find_event g m ys) refl h (find_event_name g m ys x)

-- after an insertion
either_first : (p q : Bool) (x y : Event) (o : Option Event) → (p ≡ true → q ≡ true → ⊥) → cond q (Some y) (cond p (Some x) o) ≡ cond p (Some x) (cond q (Some y) o)
either_first true true x y o apart = absurd (apart refl refl)
either_first true false x y o apart = refl
either_first false true x y o apart = refl
either_first false false x y o apart = refl

not_both : (a b : ℕ) (x y : Event) → is_event x.sender x.serial y ≡ false → is_event a b x ≡ true → is_event a b y ≡ true → ⊥
not_both a b x y apart p q = let e = is_event_both a b x y p q in cc

found_in_place : (before : Bool) (a b : ℕ) (x y : Event) (ys later : List Event) → is_event x.sender x.serial y ≡ false → find_event a b later ≡ cond (is_event a b x) (Some x) (find_event a b ys) → find_event a b (cond before (x ∷ y ∷ ys) (y ∷ later)) ≡ cond (is_event a b x) (Some x) (find_event a b (y ∷ ys))
unfolding find_event
found_in_place true a b x y ys later apart e = refl
found_in_place false a b x y ys later apart e = rw e (either_first (is_event a b x) (is_event a b y) x y (find_event a b ys) (not_both a b x y apart))

pub find_event-insert_event : (a b : ℕ) (x : Event) (xs : List Event) → find_event x.sender x.serial xs ≡ None → find_event a b (insert_event x xs) ≡ cond (is_event a b x) (Some x) (find_event a b xs)
unfolding insert_event find_event
find_event-insert_event a b x [] h = refl
find_event-insert_event a b x (y ∷ ys) h = found_in_place (is_before x y) a b x y ys (insert_event x ys) (missed_head x.sender x.serial y ys h) (find_event-insert_event a b x ys (missed_later x.sender x.serial y ys h))

unique_in_place : (before : Bool) (x y : Event) (ys later : List Event) → find_event x.sender x.serial (y ∷ ys) ≡ None → IsUnique (y ∷ ys) → find_event y.sender y.serial later ≡ None → IsUnique later → IsUnique (cond before (x ∷ y ∷ ys) (y ∷ later))
unfolding IsUnique
unique_in_place true x y ys later h u f v = (h, u)
unique_in_place false x y ys later h u f v = (f, v)

pub IsUnique-insert_event : (x : Event) (xs : List Event) → find_event x.sender x.serial xs ≡ None → IsUnique xs → IsUnique (insert_event x xs)
unfolding insert_event IsUnique
IsUnique-insert_event x [] h u = (h, tt)
IsUnique-insert_event x (y ∷ ys) h u =
    let later = missed_later x.sender x.serial y ys h in
    let apart : is_event y.sender y.serial x ≡ false = is_event-turned y x ∙ missed_head x.sender x.serial y ys h in
    unique_in_place (is_before x y) x y ys (insert_event x ys) h u (find_event-insert_event y.sender y.serial x ys later ∙ rw apart u.0) (IsUnique-insert_event x ys later u.1)

placed_length : (before : Bool) (x y : Event) (ys later : List Event) → length later ≡ suc (length ys) → length (cond before (x ∷ y ∷ ys) (y ∷ later)) ≡ suc (suc (length ys))
placed_length true x y ys later e = refl
placed_length false x y ys later e = ap suc e

pub length-insert_event : (x : Event) (xs : List Event) → length (insert_event x xs) ≡ suc (length xs)
unfolding insert_event
length-insert_event x [] = refl
length-insert_event x (y ∷ ys) = placed_length (is_before x y) x y ys (insert_event x ys) (length-insert_event x ys)

-- after a removal
pub remove_event_missed : (g m : ℕ) (xs : List Event) → find_event g m xs ≡ None → remove_event g m xs ≡ xs
unfolding remove_event
remove_event_missed g m [] h = refl
remove_event_missed g m (y ∷ ys) h = rw (missed_head g m y ys h, remove_event_missed g m ys (missed_later g m y ys h))

missed_if : (t : Bool) (a b : ℕ) (y : Event) (ys later : List Event) → is_event a b y ≡ false → find_event a b ys ≡ None → find_event a b later ≡ None → find_event a b (cond t ys (y ∷ later)) ≡ None
unfolding find_event
missed_if true a b y ys later apart h e = h
missed_if false a b y ys later apart h e = rw apart e

missed_still : (a b g m : ℕ) (xs : List Event) → find_event a b xs ≡ None → find_event a b (remove_event g m xs) ≡ None
unfolding remove_event find_event
missed_still a b g m [] h = refl
missed_still a b g m (y ∷ ys) h =
    let later = missed_later a b y ys h in
    missed_if (is_event g m y) a b y ys (remove_event g m ys) (missed_head a b y ys h) later (missed_still a b g m ys later)

gone_if : (t : Bool) (g m : ℕ) (y : Event) (ys later : List Event) → is_event g m y ≡ t → find_event y.sender y.serial ys ≡ None → find_event g m later ≡ None → find_event g m (cond t ys (y ∷ later)) ≡ None
unfolding find_event
gone_if true g m y ys later is u e = let n = names_equal g m y is in rw (n.0, n.1) u
gone_if false g m y ys later is u e = rw is e

pub find_event-remove_event_same : (g m : ℕ) (xs : List Event) → IsUnique xs → find_event g m (remove_event g m xs) ≡ None
unfolding remove_event find_event IsUnique
find_event-remove_event_same g m [] u = refl
find_event-remove_event_same g m (y ∷ ys) u = gone_if (is_event g m y) g m y ys (remove_event g m ys) refl u.0 (find_event-remove_event_same g m ys u.1)

kept_if : (t : Bool) (a b g m : ℕ) (y : Event) (ys later : List Event) → is_event g m y ≡ t → eqb g a && eqb m b ≡ false → find_event a b later ≡ find_event a b ys → find_event a b (cond t ys (y ∷ later)) ≡ find_event a b (y ∷ ys)
unfolding find_event
kept_if true a b g m y ys later is apart e = rw (is_event_other a b g m y apart is)
kept_if false a b g m y ys later is apart e = rw e

pub find_event-remove_event_other : (a b g m : ℕ) (xs : List Event) → eqb g a && eqb m b ≡ false → find_event a b (remove_event g m xs) ≡ find_event a b xs
unfolding remove_event
find_event-remove_event_other a b g m [] apart = refl
find_event-remove_event_other a b g m (y ∷ ys) apart = kept_if (is_event g m y) a b g m y ys (remove_event g m ys) refl apart (find_event-remove_event_other a b g m ys apart)

unique_if : (t : Bool) (y : Event) (ys later : List Event) → IsUnique ys → find_event y.sender y.serial later ≡ None → IsUnique later → IsUnique (cond t ys (y ∷ later))
unfolding IsUnique
unique_if true y ys later u h v = u
unique_if false y ys later u h v = (h, v)

pub IsUnique-remove_event : (g m : ℕ) (xs : List Event) → IsUnique xs → IsUnique (remove_event g m xs)
unfolding remove_event IsUnique
IsUnique-remove_event g m [] u = tt
IsUnique-remove_event g m (y ∷ ys) u = unique_if (is_event g m y) y ys (remove_event g m ys) u.1 (missed_still y.sender y.serial g m ys u.0) (IsUnique-remove_event g m ys u.1)

shorter_if : (t : Bool) (x y : Event) (ys later : List Event) (o : Option Event) → cond t (Some y) o ≡ Some x → (o ≡ Some x → suc (length later) ≡ length ys) → suc (length (cond t ys (y ∷ later))) ≡ suc (length ys)
shorter_if true x y ys later o e f = refl
shorter_if false x y ys later o e f = ap suc (f e)

pub length-remove_event : (g m : ℕ) (xs : List Event) (x : Event) → find_event g m xs ≡ Some x → suc (length (remove_event g m xs)) ≡ length xs
unfolding remove_event find_event
length-remove_event g m [] x h = absurd (cc)
length-remove_event g m (y ∷ ys) x h = shorter_if (is_event g m y) x y ys (remove_event g m ys) (find_event g m ys) h (length-remove_event g m ys x)

-- Laws of queues and wires
use Rattle.std.proofs.Common.{◌≡◌, ℕ, ◌+◌, ◌≤◌, min, cond, not, Bool, true, false, refl, sym, ap, ⊎_elim, arith, eqb-true, List, [], ◌∷◌, ◌++◌, Option, Some, None, filter}
use Rattle.std.proofs.lemmas.Bool.{cond_both, and_parts, cases_Bool, or_parts, ltb-false}
use Rattle.std.proofs.lemmas.Bool.Decides.{nat_tests}
use Rattle.hla_base.specs.declared.content.Event.{Event}
use Rattle.hla_base.specs.Tables.{forever, or_else, one_if}
use Rattle.hla_components.specs.Invariant.{Above, IsTsoQueue}
use Rattle.hla_component_rules.specs.Queues.{is_before, insert_event, is_event, find_event, remove_event, occurrences, first_stamp}

pub Above-weaker : (v w : ℕ) (xs : List Event) → w ≤ v → Above v xs → Above w xs
Above-weaker v w [] l h = tt
Above-weaker v w (x ∷ xs) l h = (omega (arith, h.0), Above-weaker v w xs l h.1)

pub Above-insert : (v : ℕ) (e : Event) (xs : List Event) → v ≤ e.stamp → Above v xs → Above v (insert_event e xs)
unfolding insert_event
Above-insert v e [] l h = (l, tt)
Above-insert v e (x ∷ xs) l h = cond_both (is_before e x) (e ∷ x ∷ xs) (x ∷ insert_event e xs) (Above v) (λ _. (l, h)) (λ _. (h.0, Above-insert v e xs l h.1))

before_stamp : (e x : Event) → is_before e x ≡ true → e.stamp ≤ x.stamp
before_stamp e x h = grind (arith, nat_tests)

not_before_stamp : (e x : Event) → is_before e x ≡ false → x.stamp ≤ e.stamp
not_before_stamp e x h = ltb-false e.stamp x.stamp (or_parts _ _ h).0

pub IsTsoQueue-insert : (e : Event) (xs : List Event) → e.ordered ≡ true → IsTsoQueue xs → IsTsoQueue (insert_event e xs)
unfolding insert_event
IsTsoQueue-insert e [] t h = (t, tt, tt)
IsTsoQueue-insert e (x ∷ xs) t h = cond_both (is_before e x) (e ∷ x ∷ xs) (x ∷ insert_event e xs) IsTsoQueue
    (λ b. (t, (before_stamp e x b, Above-weaker x.stamp e.stamp xs (before_stamp e x b) h.1), h))
    (λ b. (h.0, Above-insert x.stamp e xs (not_before_stamp e x b) h.1, IsTsoQueue-insert e xs t h.2))

pub first_stamp-insert : (e : Event) (xs : List Event) (v : ℕ) → v ≤ e.stamp → v ≤ first_stamp xs → v ≤ first_stamp (insert_event e xs)
unfolding insert_event
first_stamp-insert e [] v a b = a
first_stamp-insert e (x ∷ xs) v a b = cond_both (is_before e x) (e ∷ x ∷ xs) (x ∷ insert_event e xs) (λ ys. v ≤ first_stamp ys) (λ _. a) (λ _. b)

pub find-above : (v g m : ℕ) (e : Event) (xs : List Event) → Above v xs → find_event g m xs ≡ Some e → v ≤ e.stamp
unfolding find_event
find-above v g m e [] h f = absurd (cc)
find-above v g m e (x ∷ xs) h f = ⊎_elim
    (λ (y : is_event g m x ≡ true). let same : x ≡ e = grind arith in rw (← same) h.0)
    (λ (n : is_event g m x ≡ false). find-above v g m e xs h.1 (grind arith))
    (cases_Bool (is_event g m x))

pub not_in_nil : (g m : ℕ) {e : Event} → find_event g m [] ≡ Some e → ⊥
unfolding find_event
not_in_nil g m f = cc

-- each of a queue in key order is at least its first
pub find-first_stamp : (g m : ℕ) (e : Event) (xs : List Event) → IsTsoQueue xs → find_event g m xs ≡ Some e → first_stamp xs ≤ e.stamp
find-first_stamp g m e [] h f = absurd (not_in_nil g m f)
find-first_stamp g m e (x ∷ xs) h f = find-above x.stamp g m e (x ∷ xs) (omega arith, h.1) f

-- the key of what is found
pub find-key : (g m : ℕ) (e : Event) (xs : List Event) → find_event g m xs ≡ Some e → (e.sender ≡ g) × (e.serial ≡ m)
unfolding find_event
find-key g m e [] f = absurd (cc)
find-key g m e (x ∷ xs) f = ⊎_elim
    (λ (y : is_event g m x ≡ true). let same : x ≡ e = grind arith in let p = and_parts _ _ y in rw (← same) (sym (eqb-true g x.sender p.0), sym (eqb-true m x.serial p.1)))
    (λ (n : is_event g m x ≡ false). find-key g m e xs (grind arith))
    (cases_Bool (is_event g m x))

-- ---- counts
pub occurs-append : (g m : ℕ) (xs ys : List Event) → occurrences g m (xs ++ ys) ≡ occurrences g m xs + occurrences g m ys
unfolding occurrences
occurs-append g m [] ys = omega arith
occurs-append g m (x ∷ xs) ys = omega (arith, occurs-append g m xs ys)

pub occurs-insert : (g m : ℕ) (e : Event) (xs : List Event) → occurrences g m (insert_event e xs) ≡ one_if (is_event g m e) + occurrences g m xs
unfolding occurrences insert_event
occurs-insert g m e [] = refl
occurs-insert g m e (x ∷ xs) = cond_both (is_before e x) (e ∷ x ∷ xs) (x ∷ insert_event e xs) (λ ys. occurrences g m ys ≡ one_if (is_event g m e) + (one_if (is_event g m x) + occurrences g m xs))
    (λ _. refl) (λ _. omega (arith, occurs-insert g m e xs))

pub occurs-filter : (g m : ℕ) (p : Event → Bool) (xs : List Event) → occurrences g m (filter p xs) + occurrences g m (filter (λ x. not (p x)) xs) ≡ occurrences g m xs
unfolding occurrences
occurs-filter g m p [] = refl
occurs-filter g m p (x ∷ xs) = ⊎_elim
    (λ (y : p x ≡ true). rw y (omega (arith, occurs-filter g m p xs)))
    (λ (n : p x ≡ false). rw n (omega (arith, occurs-filter g m p xs)))
    (cases_Bool (p x))

pub find-none : (g m : ℕ) (xs : List Event) → occurrences g m xs ≡ 0 → find_event g m xs ≡ None
unfolding occurrences find_event
find-none g m [] h = refl
find-none g m (x ∷ xs) h = ⊎_elim
    (λ (y : is_event g m x ≡ true). absurd (grind arith))
    (λ (n : is_event g m x ≡ false). rw n (find-none g m xs (grind arith)))
    (cases_Bool (is_event g m x))

pub find-append : (g m : ℕ) (xs ys : List Event) → find_event g m (xs ++ ys) ≡ or_else (find_event g m xs) (find_event g m ys)
unfolding find_event
find-append g m [] ys = refl
find-append g m (x ∷ xs) ys = ⊎_elim
    (λ (y : is_event g m x ≡ true). rw y refl)
    (λ (n : is_event g m x ≡ false). rw n (find-append g m xs ys))
    (cases_Bool (is_event g m x))

no_key : (g m : ℕ) (x : Event) (xs : List Event) → occurrences g m (x ∷ xs) ≡ 0 → is_event g m x ≡ false
unfolding occurrences
no_key g m x xs h = ⊎_elim (λ (y : is_event g m x ≡ true). absurd (grind arith)) (λ (n : is_event g m x ≡ false). n) (cases_Bool (is_event g m x))

-- two events with different keys
two : (g m : ℕ) (e x : Event) (o : Option Event) → is_event e.sender e.serial x ≡ false →
    cond (is_event g m x) (Some x) (cond (is_event g m e) (Some e) o) ≡ cond (is_event g m e) (Some e) (cond (is_event g m x) (Some x) o)
two g m e x o ne = grind (arith, nat_tests)

pub find-insert : (g m : ℕ) (e : Event) (xs : List Event) → occurrences e.sender e.serial xs ≡ 0 → find_event g m (insert_event e xs) ≡ cond (is_event g m e) (Some e) (find_event g m xs)
unfolding occurrences find_event insert_event
find-insert g m e [] h = refl
find-insert g m e (x ∷ xs) h = cond_both (is_before e x) (e ∷ x ∷ xs) (x ∷ insert_event e xs) (λ ys. find_event g m ys ≡ cond (is_event g m e) (Some e) (cond (is_event g m x) (Some x) (find_event g m xs)))
    (λ _. refl) (λ _. rw (find-insert g m e xs (omega (arith, h))) (two g m e x (find_event g m xs) (no_key e.sender e.serial x xs h)))

pub occurs-one : (g m : ℕ) (e : Event) → occurrences g m (e ∷ []) ≡ one_if (is_event g m e)
unfolding occurrences
occurs-one g m e = omega arith

pub find-cons : (g m : ℕ) (e : Event) (xs : List Event) → find_event g m (e ∷ xs) ≡ cond (is_event g m e) (Some e) (find_event g m xs)
unfolding find_event
find-cons g m e xs = refl

pub occurs-cons : (g m : ℕ) (e : Event) (xs : List Event) → occurrences g m (e ∷ xs) ≡ one_if (is_event g m e) + occurrences g m xs
unfolding occurrences
occurs-cons g m e xs = refl

pub find-occurs : (g m : ℕ) (e : Event) (xs : List Event) → find_event g m xs ≡ Some e → 1 ≤ occurrences g m xs
unfolding find_event occurrences
find-occurs g m e [] f = absurd (cc)
find-occurs g m e (x ∷ xs) f = ⊎_elim
    (λ (y : is_event g m x ≡ true). rw y (omega arith))
    (λ (n : is_event g m x ≡ false). rw n (omega (arith, find-occurs g m e xs (grind arith))))
    (cases_Bool (is_event g m x))

pub Above-filter : (v : ℕ) (p : Event → Bool) (xs : List Event) → Above v xs → Above v (filter p xs)
Above-filter v p [] h = tt
Above-filter v p (x ∷ xs) h = cond_both (p x) (x ∷ filter p xs) (filter p xs) (Above v) (λ _. (h.0, Above-filter v p xs h.1)) (λ _. Above-filter v p xs h.1)

pub IsTsoQueue-filter : (p : Event → Bool) (xs : List Event) → IsTsoQueue xs → IsTsoQueue (filter p xs)
IsTsoQueue-filter p [] h = tt
IsTsoQueue-filter p (x ∷ xs) h = cond_both (p x) (x ∷ filter p xs) (filter p xs) IsTsoQueue (λ _. (h.0, Above-filter x.stamp p xs h.1, IsTsoQueue-filter p xs h.2)) (λ _. IsTsoQueue-filter p xs h.2)

-- ---- an event is taken out
pub occurs-remove : (g m h k : ℕ) (xs : List Event) → occurrences h k (remove_event g m xs) ≤ occurrences h k xs
unfolding occurrences remove_event
occurs-remove g m h k [] = omega arith
occurs-remove g m h k (x ∷ xs) = cond_both (is_event g m x) xs (x ∷ remove_event g m xs) (λ ys. occurrences h k ys ≤ one_if (is_event h k x) + occurrences h k xs) (λ _. omega arith) (λ _. omega (arith, occurs-remove g m h k xs))

pub find-remove : (g m : ℕ) (xs : List Event) → occurrences g m xs ≤ 1 → find_event g m (remove_event g m xs) ≡ None
unfolding occurrences find_event remove_event
find-remove g m [] h = refl
find-remove g m (x ∷ xs) h = ⊎_elim
    (λ (y : is_event g m x ≡ true). let o : 1 + occurrences g m xs ≤ 1 = rw y at h in rw y (find-none g m xs (omega arith)))
    (λ (n : is_event g m x ≡ false). let o : 0 + occurrences g m xs ≤ 1 = rw n at h in rw n (rw n (find-remove g m xs (omega arith))))
    (cases_Bool (is_event g m x))

pub find-remove_other : (g m h k : ℕ) (xs : List Event) → ((x : Event) → is_event g m x ≡ true → is_event h k x ≡ false) → find_event h k (remove_event g m xs) ≡ find_event h k xs
unfolding find_event remove_event
find-remove_other g m h k [] apart = refl
find-remove_other g m h k (x ∷ xs) apart = ⊎_elim
    (λ (y : is_event g m x ≡ true). rw y (rw (apart x y) refl))
    (λ (n : is_event g m x ≡ false). rw n (ap (λ o. cond (is_event h k x) (Some x) o) (find-remove_other g m h k xs apart)))
    (cases_Bool (is_event g m x))

pub Above-remove : (v g m : ℕ) (xs : List Event) → Above v xs → Above v (remove_event g m xs)
unfolding remove_event
Above-remove v g m [] h = tt
Above-remove v g m (x ∷ xs) h = cond_both (is_event g m x) xs (x ∷ remove_event g m xs) (Above v) (λ _. h.1) (λ _. (h.0, Above-remove v g m xs h.1))

pub IsTsoQueue-remove : (g m : ℕ) (xs : List Event) → IsTsoQueue xs → IsTsoQueue (remove_event g m xs)
unfolding remove_event
IsTsoQueue-remove g m [] h = tt
IsTsoQueue-remove g m (x ∷ xs) h = cond_both (is_event g m x) xs (x ∷ remove_event g m xs) IsTsoQueue (λ _. h.2) (λ _. (h.0, Above-remove x.stamp g m xs h.1, IsTsoQueue-remove g m xs h.2))

-- the least stamp behind the first
pub first_rest : (v lb : ℕ) (xs : List Event) → Above v xs → lb ≤ forever → min v lb ≤ first_stamp xs
first_rest v lb [] h c = omega arith
first_rest v lb (x ∷ xs) h c = omega (arith, h.0)

pub first_stamp-remove : (g m lb : ℕ) (xs : List Event) → IsTsoQueue xs → lb ≤ forever → min (first_stamp xs) lb ≤ first_stamp (remove_event g m xs)
unfolding remove_event
first_stamp-remove g m lb [] h c = omega arith
first_stamp-remove g m lb (x ∷ xs) h c = cond_both (is_event g m x) xs (x ∷ remove_event g m xs) (λ ys. min x.stamp lb ≤ first_stamp ys) (λ _. first_rest x.stamp lb xs h.1 c) (λ _. omega arith)

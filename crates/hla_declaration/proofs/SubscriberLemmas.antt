-- Sets of subscribers after a change
use Rattle.std.proofs.Common.{◌≡◌, ◌≢◌, ℕ, zero, suc, ◌-◌, ◌/◌, ◌^◌, ◌==◌, ◌<◌, ◌≤◌, ◌&&◌, ◌||◌, List, [], ◌∷◌, ◌++◌, length, get_or, set, eqb, cond, true, false, Bool, Option, None, Some, is_some, refl, sym, ap, ◌∙◌, subst, arith, ⊎_elim}
use Rattle.std.specs.Prelude.{find, bit_or}
use Rattle.std.specs.List.{list_any}
use Rattle.std.specs.Int.{bit_at, w32, leading_zeros, trailing_zeros}
use Rattle.std.specs.Int.Count.{count_leading_zeros, leading_le}
use Rattle.std.proofs.lemmas.Nat.{pow_pos}
use Rattle.std.proofs.lemmas.Bool.{cases_eq, cases_lt}
use Rattle.std.proofs.lemmas.Bool.Decides.{nat_tests}
use Rattle.std.proofs.lemmas.List.{get_or_past}
use Rattle.std.proofs.lemmas.List.Folds.{list_any-append}
use Rattle.std.proofs.lemmas.Nat.Bits.{bit_at_above, bit_at_or, bit_at-trailing_zeros, bit_at-zero}
use Rattle.std.proofs.Math.Nat.{pow-suc}
use Rattle.std.proofs.Math.Path.{fun_ext}
use Rattle.hla_base.specs.Limits.{max_joins}
use Rattle.hla_declaration.specs.Entries.{entry_at}
use Rattle.hla_declaration.specs.Subscribers.{has_federate, is_in_set_of, AreSubscribers, AreSetsWhole}
use Rattle.hla_declaration.proofs.EntryLemmas.{entry-set, entry-suc}

-- who is in both sets together is in one of them
pub has_federate-or : (a b f : ℕ) → has_federate (bit_or a b) f ≡ (has_federate a f || has_federate b f)
has_federate-or a b f =
    let joined = bit_at_or a b f in
    let low_a : bit_at a f < 2 = omega arith in
    let low_b : bit_at b f < 2 = omega arith in
    grind (arith, nat_tests)

-- nobody is in the empty set
pub nobody : (f : ℕ) → has_federate 0 f ≡ false
nobody f = rw (bit_at-zero f) refl

-- or false changes nothing
or_nothing : (b : Bool) → (b || false) ≡ b
or_nothing true = refl
or_nothing false = refl

-- one more class, whose subscribers are added
pub any_more : (p : ℕ → Bool) (xs : List ℕ) (x : ℕ) → list_any p (xs ++ x ∷ []) ≡ (list_any p xs || p x)
any_more p xs x = list_any-append p xs (x ∷ []) ∙ ap (λ b. list_any p xs || b) (or_nothing (p x))

-- where not one of two holds, neither does
neither_of : (a b : Bool) → (a || b) ≡ false → (a ≡ false) × (b ≡ false)
neither_of false b none = (refl, none)
neither_of true b none = absurd (cc)

-- where none is, none is found
pub find_of_none : (p : ℕ → Bool) (xs : List ℕ) → list_any p xs ≡ false → find p xs ≡ None
find_of_none p [] none = refl
find_of_none p (x ∷ xs) none = let parts = neither_of (p x) (list_any p xs) none in rw (parts.0) (find_of_none p xs parts.1)

-- something is found where the first is, and where another is
found_more : (b : Bool) (x : ℕ) (o : Option ℕ) → (b || is_some o) ≡ is_some (cond b (Some x) o)
found_more true x o = refl
found_more false x o = refl

-- where one is, one is found
pub found_is : (p : ℕ → Bool) (xs : List ℕ) → list_any p xs ≡ is_some (find p xs)
found_is p [] = refl
found_is p (x ∷ xs) = ap (λ b. p x || b) (found_is p xs) ∙ found_more (p x) x (find p xs)

-- a test beside one that holds
both : (a b x y : Bool) → b ≡ true → cond a x y ≡ cond (a && b) x y
both true b x y is = rw is refl
both false b x y is = refl

-- a test beside one that fails
neither : (a b x y : Bool) → b ≡ false → y ≡ cond (a && b) x y
neither true b x y is = rw is refl
neither false b x y is = refl

-- the same on either condition
same_cond : (b x : Bool) → cond b x x ≡ x
same_cond true x = refl
same_cond false x = refl

-- a federate is taken out of each set
pub listed_withdrawn : (old new : List ℕ) (federate : ℕ) → length new ≡ length old
    → ((k f : ℕ) → k < length old → f ≤ max_joins → has_federate (get_or new k 0) f ≡ cond (eqb federate f) false (has_federate (get_or old k 0) f))
    → (f k : ℕ) → f ≤ max_joins → is_in_set_of new f k ≡ cond (eqb federate f) false (is_in_set_of old f k)
listed_withdrawn old new federate room each f zero few = rw (nobody f) (sym (same_cond (eqb federate f) false))
listed_withdrawn old new federate room each f (suc k) few = rw (entry-suc 0 new k, entry-suc 0 old k) (⊎_elim
    (λ (within : k < length old). each k f within few)
    (λ (past : length old ≤ k). rw (get_or_past new k 0 (omega arith), get_or_past old k 0 past, nobody f) (sym (same_cond (eqb federate f) false)))
    (cases_lt k (length old)))

-- the set of one class changes
pub listed_put : (sets : List ℕ) (class new federate : ℕ) (is_in : Bool) → 0 < class → class ≤ length sets
    → ((f : ℕ) → f ≤ max_joins → has_federate new f ≡ cond (eqb federate f) is_in (has_federate (entry_at 0 sets class) f))
    → (f k : ℕ) → f ≤ max_joins → is_in_set_of (set sets (class - 1) new) f k ≡ cond (eqb federate f && eqb class k) is_in (is_in_set_of sets f k)
listed_put sets class new federate is_in first last one f k few = ⊎_elim
    (λ (e : class ≡ k). let y : eqb class class ≡ true = grind (arith, nat_tests) in
    subst (λ k. is_in_set_of (set sets (class - 1) new) f k ≡ cond (eqb federate f && eqb class k) is_in (is_in_set_of sets f k)) e
    (ap (λ x. has_federate x f) (entry-set 0 sets class new first last class ∙ rw y refl) ∙ one f few ∙ both (eqb federate f) (eqb class class) is_in (is_in_set_of sets f class) y))
    (λ (ne : class ≢ k). let n : eqb class k ≡ false = grind (arith, nat_tests) in
    ap (λ x. has_federate x f) (entry-set 0 sets class new first last k ∙ rw n refl) ∙ neither (eqb federate f) (eqb class k) is_in (is_in_set_of sets f k) n)
    (cases_eq class k)

module _ (classes federates : ℕ) (old new : List ℕ) (before after : ℕ → ℕ → Bool) (whole : AreSetsWhole classes federates old before) where
  -- one federate subscribes one class, or not any more
  pub sets_put : (federate class : ℕ) (is_in : Bool) → length new ≡ length old
      → ((f k : ℕ) → f ≤ max_joins → is_in_set_of new f k ≡ cond (eqb federate f && eqb class k) is_in (is_in_set_of old f k))
      → ((f k : ℕ) → after f k ≡ cond (eqb federate f && eqb class k) is_in (before f k)) → AreSetsWhole classes federates new after
  sets_put federate class is_in room listed tables = record {
    room = λ some. rw room (whole.room some);
    agree = λ f k few. listed f k few ∙ ap (cond (eqb federate f && eqb class k) is_in) (whole.agree f k few) ∙ sym (tables f k);
  }

  -- one federate subscribes nothing any more
  pub sets_withdrawn : (federate : ℕ) → length new ≡ length old
      → ((f k : ℕ) → f ≤ max_joins → is_in_set_of new f k ≡ cond (eqb federate f) false (is_in_set_of old f k))
      → ((f k : ℕ) → after f k ≡ cond (eqb federate f) false (before f k)) → AreSetsWhole classes federates new after
  sets_withdrawn federate room listed tables = record {
    room = λ some. rw room (whole.room some);
    agree = λ f k few. listed f k few ∙ ap (cond (eqb federate f) false) (whole.agree f k few) ∙ sym (tables f k);
  }

  -- nobody subscribes anything else, whatever room there is now
  pub sets_same : (federates' : ℕ) → (0 < federates' → classes ≤ length new) → ((class : ℕ) → entry_at 0 new class ≡ entry_at 0 old class)
      → ((f k : ℕ) → after f k ≡ before f k) → AreSetsWhole classes federates' new after
  sets_same federates' room same tables = record {
    room = room;
    agree = λ f k few. ap (λ x. has_federate x f) (same k) ∙ whole.agree f k few ∙ sym (tables f k);
  }

-- the sets find what the table finds
module _ (sets : List ℕ) (subscribed : ℕ → ℕ → Bool) (agree : AreSubscribers sets subscribed) where
  pub found_same : (f : ℕ) → f ≤ max_joins → (classes : List ℕ) → find (is_in_set_of sets f) classes ≡ find (λ k. subscribed f k) classes
  found_same f few classes = ap (λ (p : ℕ → Bool). find p classes) (fun_ext (λ k. agree f k few))

-- nobody stands below the lowest bit of a set
pub nobody_before : (set f : ℕ) → set < 2 ^ 32 → f < trailing_zeros w32 set → has_federate set f ≡ false
nobody_before zero f fits below = nobody f
nobody_before (suc n) f fits below = ap (λ bit. bit == 1) ((bit_at-trailing_zeros w32 (suc n) (omega arith) fits).2 f below)

-- a number lies below the power at its highest bit
below_highest : (count n : ℕ) → n < 2 ^ count → n < 2 ^ (count - count_leading_zeros count n)
unfolding count_leading_zeros
below_highest zero n fits = fits
below_highest (suc k) zero fits = pow_pos (suc k - suc k)
below_highest (suc k) (suc n) fits =
    let zeros = count_leading_zeros k (suc n / 2) in
    let half : suc n / 2 < 2 ^ k = omega (arith, fits, pow-suc 2 k) in
    let rest : suc n / 2 < 2 ^ (k - zeros) = below_highest k (suc n / 2) half in
    let more : suc k - zeros ≡ suc (k - zeros) = omega (arith, leading_le k (suc n / 2)) in
    rw (more, pow-suc 2 (k - zeros)) (omega (arith, rest))

-- and nobody past the highest
pub nobody_behind : (set f : ℕ) → set < 2 ^ 32 → 32 - leading_zeros w32 set ≤ f → has_federate set f ≡ false
nobody_behind set f fits past = ap (λ bit. bit == 1) (bit_at_above set (32 - leading_zeros w32 set) f (below_highest 32 set fits) past)

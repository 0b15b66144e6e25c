-- The number that decimal digits say.
use Rattle.std.proofs.Common.{◌≡◌, ◌≢◌, ℕ, ◌+◌, ◌-◌, ◌*◌, ◌<◌, ◌≤◌, ◌==◌, ◌||◌, not, nat_lt, if◌then◌else◌, Bool, true, false, List, length, take, get_or, Ok, Err, refl, sym, arith}
use Rattle.std.proofs.lemmas.Bool.Decides.{nat_tests}
use Rattle.std.proofs.lemmas.Int.Digits.{digits_value_more}
use Rattle.std.proofs.lemmas.List.Folds.{list_all_at}
use Rattle.std.proofs.lemmas.Str.{digit_value_digit}
use Rattle.std.proofs.lemmas.Str.Parse.{digits_value-take-le}
use Rattle.std.specs.Char.{is_ascii_digit, digit_value}
use Rattle.std.specs.Int.{IsInRange}
use Rattle.std.specs.List.{list_all}
use Rattle.std.specs.Str.Parse.{digits_value}
use Rattle.hla_base.specs.Limits.{largest_number}
use Rattle.hla_commands.specs.Script.{word_number}
use Rattle.hla_commands.specs.declared.lines.ScriptFaultKind.TheVariants.{BadNumber}

in_range : (c : ℕ) → is_ascii_digit c ≡ true → IsInRange 48 57 c
in_range c e = grind (arith, nat_tests)

digit_at : (ds : List ℕ) (i : ℕ) → list_all is_ascii_digit ds ≡ true → i < length ds → digit_value (get_or ds i 0) ≡ get_or ds i 0 - 48
digit_at ds i all lt = elim (is_ascii_digit (get_or ds i 0)) as (λ b. is_ascii_digit (get_or ds i 0) ≡ b → digit_value (get_or ds i 0) ≡ get_or ds i 0 - 48) [
  | true ↦ λ e. omega (arith, digit_value_digit (get_or ds i 0) (in_range (get_or ds i 0) e))
  | false ↦ λ e. let none = list_all_at is_ascii_digit ds i 0 lt e in cc
] refl

-- the digits up to a place, and the next
pub next_value : (ds : List ℕ) (i v : ℕ) → list_all is_ascii_digit ds ≡ true → i < length ds → v ≡ digits_value 10 (take i ds) → v * 10 + (get_or ds i 0 - 48) ≡ digits_value 10 (take (i + 1) ds)
next_value ds i v all lt is = rw (digits_value_more 10 ds i lt, digit_at ds i all lt, is) refl

-- further digits make no number smaller
pub too_large : (ds : List ℕ) (i v : ℕ) → list_all is_ascii_digit ds ≡ true → i < length ds → v ≡ digits_value 10 (take i ds) → largest_number < v * 10 + (get_or ds i 0 - 48) → largest_number < digits_value 10 ds
too_large ds i v all lt is above = omega (arith, next_value ds i v all lt is, digits_value-take-le 10 ds (i + 1) (omega arith))

first : {X : Type 0} (a b c : Bool) (x y : X) → a ≡ true → (if a || b || c then x else y) ≡ x
first true b c x y e = refl
first false b c x y e = cc

second : {X : Type 0} (a b c : Bool) (x y : X) → b ≡ true → (if a || b || c then x else y) ≡ x
second true b c x y e = refl
second false true c x y e = refl
second false false c x y e = cc

third : {X : Type 0} (a b c : Bool) (x y : X) → c ≡ true → (if a || b || c then x else y) ≡ x
third true b c x y e = refl
third false true c x y e = refl
third false false true x y e = refl
third false false false x y e = cc

none_of : {X : Type 0} (a b c : Bool) (x y : X) → a ≡ false → b ≡ false → c ≡ false → (if a || b || c then x else y) ≡ y
none_of false false false x y e f g = refl
none_of false false true x y e f g = cc
none_of false true c x y e f g = cc
none_of true b c x y e f g = cc

pub empty_word : (word : List ℕ) → length word ≡ 0 → Err BadNumber ≡ word_number word
unfolding word_number
empty_word word e = sym (first (length word == 0) _ _ _ _ (grind (arith, nat_tests)))

pub no_digits : (word : List ℕ) → list_all is_ascii_digit word ≡ false → Err BadNumber ≡ word_number word
unfolding word_number
no_digits word e = sym (second (length word == 0) (not (list_all is_ascii_digit word)) _ _ _ (rw e refl))

pub large_word : (word : List ℕ) → largest_number < digits_value 10 word → Err BadNumber ≡ word_number word
unfolding word_number
large_word word above = sym (third (length word == 0) (not (list_all is_ascii_digit word)) (nat_lt largest_number (digits_value 10 word)) _ _ (grind (arith, nat_tests)))

pub word_of_digits : (word : List ℕ) (n : ℕ) → length word ≢ 0 → list_all is_ascii_digit word ≡ true → n ≤ largest_number → n ≡ digits_value 10 word → Ok n ≡ word_number word
unfolding word_number
word_of_digits word n some all within is =
    let small : nat_lt largest_number (digits_value 10 word) ≡ false = grind (arith, nat_tests) in
    let there : (length word == 0) ≡ false = grind (arith, nat_tests) in
    rw is (sym (none_of (length word == 0) (not (list_all is_ascii_digit word)) (nat_lt largest_number (digits_value 10 word)) _ _ there (rw all refl) small))

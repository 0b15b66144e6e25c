-- Where words begin and end.
use Rattle.std.proofs.Common.{◌≡◌, ℕ, suc, ◌+◌, ◌<◌, true, false, not, List, [], ◌∷◌, drop, take, refl, sym, ap, ◌∙◌, arith}
use Rattle.std.specs.List.{prefix_len}
use Rattle.hla_commands.specs.Words.{is_gap, words_from}

-- how long the word in front is
abbrev front_len : List ℕ → ℕ
front_len bytes = prefix_len (λ b. not (is_gap b)) bytes

-- bytes that continue a word begin none
rest_of_word : (bytes : List ℕ) → words_from true bytes ≡ words_from false (drop (front_len bytes) bytes)
unfolding words_from
rest_of_word [] = refl
rest_of_word (b ∷ bytes) = elim (is_gap b) as (λ v. is_gap b ≡ v → words_from true (b ∷ bytes) ≡ words_from false (drop (front_len (b ∷ bytes)) (b ∷ bytes))) [
  | true ↦ λ e. rw e (rw e refl)
  | false ↦ λ e. let one : 1 + front_len bytes ≡ suc (front_len bytes) = omega arith in rw e (rw one (rest_of_word bytes))
] refl

-- gaps in front begin no word
skips_gaps : (bytes : List ℕ) → words_from false bytes ≡ words_from false (drop (prefix_len is_gap bytes) bytes)
unfolding words_from
skips_gaps [] = refl
skips_gaps (b ∷ bytes) = elim (is_gap b) as (λ v. is_gap b ≡ v → words_from false (b ∷ bytes) ≡ words_from false (drop (prefix_len is_gap (b ∷ bytes)) (b ∷ bytes))) [
  | true ↦ λ e. let one : 1 + prefix_len is_gap bytes ≡ suc (prefix_len is_gap bytes) = omega arith in rw e (rw one (skips_gaps bytes))
  | false ↦ λ e. rw e (rw e refl)
] refl

-- the word in front, and what is left
takes_word : (bytes : List ℕ) → 0 < front_len bytes → words_from false bytes ≡ take (front_len bytes) bytes ∷ words_from false (drop (front_len bytes) bytes)
unfolding words_from
takes_word [] some = absurd (omega arith)
takes_word (b ∷ bytes) some = elim (is_gap b) as (λ v. is_gap b ≡ v → words_from false (b ∷ bytes) ≡ take (front_len (b ∷ bytes)) (b ∷ bytes) ∷ words_from false (drop (front_len (b ∷ bytes)) (b ∷ bytes))) [
  | true ↦ λ e. let none : 0 < 0 = rw e at some in absurd (omega arith)
  | false ↦ λ e. let one : 1 + front_len bytes ≡ suc (front_len bytes) = omega arith in rw e (rw one (ap (λ (ws : List (List ℕ)). take (suc (front_len bytes)) (b ∷ bytes) ∷ ws) (rest_of_word bytes)))
] refl

-- behind the gaps in front there is a word or nothing
no_word : (bytes : List ℕ) → front_len (drop (prefix_len is_gap bytes) bytes) ≡ 0 → words_from false bytes ≡ []
unfolding words_from
no_word [] none = refl
no_word (b ∷ bytes) none = elim (is_gap b) as (λ v. is_gap b ≡ v → words_from false (b ∷ bytes) ≡ []) [
  | true ↦ λ e. let one : 1 + prefix_len is_gap bytes ≡ suc (prefix_len is_gap bytes) = omega arith in rw e (no_word bytes (rw (e, one) at none))
  | false ↦ λ e. absurd (omega (arith, rw (e, e) at none))
] refl

-- the word in front, and what is left behind it
pub takes_next : (bytes rest word after : List ℕ) (g n : ℕ) → g ≡ prefix_len is_gap bytes → rest ≡ drop g bytes → n ≡ prefix_len (λ b. not (is_gap b)) rest → word ≡ take n rest → after ≡ drop n rest → 0 < n
    → words_from false bytes ≡ word ∷ words_from false after
takes_next bytes rest word after g n gaps behind len front back some =
    let at : words_from false bytes ≡ words_from false rest = rw (behind, gaps) (skips_gaps bytes) in
    let filled : 0 < front_len rest = omega arith in
    at ∙ rw (front, back, len) (takes_word rest filled)

-- where no word is in front, there is none
pub no_next : (bytes rest : List ℕ) (g n : ℕ) → g ≡ prefix_len is_gap bytes → rest ≡ drop g bytes → n ≡ prefix_len (λ b. not (is_gap b)) rest → n ≡ 0 → words_from false bytes ≡ []
no_next bytes rest g n gaps behind len none = no_word bytes (sym (rw (behind, gaps) at len) ∙ none)

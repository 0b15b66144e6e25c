-- A history that has as many records as the transcripts of all callers has no other records.
use Rattle.std.proofs.Common.{◌≡◌, ℕ, zero, suc, Bool, true, false, ◌||◌, ◌==◌, ltb, ◌+◌, ◌≤◌, ◌<◌, ◌≢◌, cond, List, [], ◌∷◌, ◌++◌, Some, length, filter, refl, sym, ◌∙◌, ap, arith, zero-le}
use Rattle.std.specs.Prelude.{slice_get}
use Rattle.std.specs.List.{All, list_any}
use Rattle.std.proofs.lemmas.Bool.Decides.{nat_tests}
use Rattle.std.proofs.lemmas.List.Elements.{All-nil, All-cons}
use Rattle.hla_components.specs.Invariant.{EachOf}
use Rattle.hla_machine.specs.declared.step.Record.{Record}
use Rattle.hla_history.specs.Closing.{records_by}
use Rattle.hla_callers.specs.Callers.{Caller, Leaver}
use Rattle.hla_callers.specs.Close.{AllHere, Agrees, AllAgree, AreOfCallers, transcripts_length}
use Rattle.hla_callers.proofs.Counting.{without_caller, shorter, others, here_length}

-- ---- what passes a test
passed : (p : Record → Bool) (rs : List Record) → length (filter p rs) ≤ length rs
passed p [] = zero-le
passed p (r ∷ rs) = go (p r) refl (passed p rs)
  where
    go : (b : Bool) → p r ≡ b → length (filter p rs) ≤ length rs → length (filter p (r ∷ rs)) ≤ length (r ∷ rs)
    go true e low = rw e (omega (arith, low))
    go false e low = rw e (omega (arith, low))

all_passed : (p : Record → Bool) (Q : Record → Type 0) → ((r : Record) → p r ≡ true → Q r) → (rs : List Record) → length (filter p rs) ≡ length rs → All Q rs
all_passed p Q holds [] same = All-nil Q
all_passed p Q holds (r ∷ rs) same = go (p r) refl (passed p rs) (all_passed p Q holds rs)
  where
    go : (b : Bool) → p r ≡ b → length (filter p rs) ≤ length rs → (length (filter p rs) ≡ length rs → All Q rs) → All Q (r ∷ rs)
    go true e low rest = let both : length (r ∷ filter p rs) ≡ length (r ∷ rs) = sym (ap (λ (b : Bool). length (cond b (r ∷ filter p rs) (filter p rs))) e) ∙ same in All-cons Q r rs (holds r e) (rest (omega (arith, both)))
    go false e low rest = let none : length (filter p rs) ≡ length (r ∷ rs) = sym (ap (λ (b : Bool). length (cond b (r ∷ filter p rs) (filter p rs))) e) ∙ same in absurd (omega (arith, none, low))

-- ---- records by their actors
-- those of the actors below n are those below n - 1 and its own
one_more : (n : ℕ) (rs : List Record) → length (filter (λ (r : Record). ltb r.actor (suc n)) rs) ≡ length (filter (λ (r : Record). ltb r.actor n) rs) + length (records_by n rs)
one_more n [] = refl
one_more n (r ∷ rs) = go (ltb r.actor n) refl (r.actor == n) refl (one_more n rs)
  where
    go : (b : Bool) → ltb r.actor n ≡ b → (c : Bool) → (r.actor == n) ≡ c → length (filter (λ (r : Record). ltb r.actor (suc n)) rs) ≡ length (filter (λ (r : Record). ltb r.actor n) rs) + length (records_by n rs)
        → length (filter (λ (r : Record). ltb r.actor (suc n)) (r ∷ rs)) ≡ length (filter (λ (r : Record). ltb r.actor n) (r ∷ rs)) + length (records_by n (r ∷ rs))
    go true e true f ih = absurd (grind (arith, nat_tests))
    go true e false f ih = let up : ltb r.actor (suc n) ≡ true = grind (arith, nat_tests) in rw (up, e, f) (omega (arith, ih))
    go false e true f ih = let up : ltb r.actor (suc n) ≡ true = grind (arith, nat_tests) in rw (up, e, f) (omega (arith, ih))
    go false e false f ih = let up : ltb r.actor (suc n) ≡ false = grind (arith, nat_tests) in rw (up, e, f) (omega (arith, ih))

-- how many records the actors below n have
counted_below : ℕ → List Record → ℕ
counted_below zero rs = 0
counted_below (suc n) rs = counted_below n rs + length (records_by n rs)

none_below : (rs : List Record) → length (filter (λ (r : Record). ltb r.actor 0) rs) ≡ 0
none_below [] = refl
none_below (r ∷ rs) = let no : ltb r.actor 0 ≡ false = grind (arith, nat_tests) in rw no (none_below rs)

below_counted : (n : ℕ) (rs : List Record) → length (filter (λ (r : Record). ltb r.actor n) rs) ≡ counted_below n rs
unfolding counted_below
below_counted zero rs = none_below rs
below_counted (suc n) rs = one_more n rs ∙ ap (λ (m : ℕ). m + length (records_by n rs)) (below_counted n rs)

-- ---- callers
module _ (rs : List Record) where
  abbrev AgreeAll : List Leaver → Type 0
  AgreeAll cs = EachOf (λ (l : Leaver). Agrees rs l.caller) cs

  agree_all : (cs : List Leaver) → ((j : ℕ) (l : Leaver) → j < length cs → slice_get cs j ≡ Some l → Agrees rs l.caller) → AgreeAll cs
  agree_all [] each = tt
  agree_all (c ∷ cs) each = (each 0 c (omega arith) refl, agree_all cs (λ j l low is. each (suc j) l (omega (arith, low)) is))

  agree_without : (n : ℕ) (cs : List Leaver) → AgreeAll cs → AgreeAll (without_caller n cs)
  unfolding without_caller
  agree_without n [] all = tt
  agree_without n (c ∷ cs) all = go (agree_without n cs all.1) (c.caller.number == n)
    where
      go : AgreeAll (without_caller n cs) → (b : Bool) → AgreeAll (cond b cs (c ∷ without_caller n cs))
      go rest true = all.1
      go rest false = (all.0, rest)

  length_without : (n : ℕ) (cs : List Leaver) → AgreeAll cs → list_any (λ (l : Leaver). l.caller.number == n) cs ≡ true
      → transcripts_length cs ≡ length (records_by n rs) + transcripts_length (without_caller n cs)
  unfolding without_caller
  length_without n [] all is = absurd (let no : false ≡ true = is in cc)
  length_without n (c ∷ cs) all is = go (length_without n cs all.1) (c.caller.number == n) refl
    where
      go : (list_any (λ (l : Leaver). l.caller.number == n) cs ≡ true → transcripts_length cs ≡ length (records_by n rs) + transcripts_length (without_caller n cs))
          → (b : Bool) → (c.caller.number == n) ≡ b → transcripts_length (c ∷ cs) ≡ length (records_by n rs) + transcripts_length (cond b cs (c ∷ without_caller n cs))
      go ih true e =
          let same : c.caller.number ≡ n = grind (arith, nat_tests) in
          ap (λ (m : ℕ). m + transcripts_length cs) (ap length all.0 ∙ ap (λ (n : ℕ). length (records_by n rs)) same)
      go ih false e =
          let there : list_any (λ (l : Leaver). l.caller.number == n) cs ≡ true = sym (ap (λ (t : Bool). t || list_any (λ (l : Leaver). l.caller.number == n) cs) e) ∙ is in
          omega (arith, ih there)

  all_counted : (n : ℕ) (cs : List Leaver) → AllHere n cs → length cs ≡ n → AgreeAll cs → length (records_by 0 rs) + transcripts_length cs ≡ counted_below (suc n) rs
  unfolding counted_below
  all_counted zero [] here same all = omega arith
  all_counted zero (c ∷ cs) here same all = absurd (omega (arith, same))
  all_counted (suc n) cs here same all =
      let top = here (suc n) (omega arith) (omega arith) in
      let rest : AllHere n (without_caller (suc n) cs) = λ m low high. (let ne : m ≢ suc n = omega arith in others (suc n) m cs ne ∙ here m low (omega arith)) in
      let fewer : length (without_caller (suc n) cs) ≡ n = omega (arith, shorter (suc n) cs top, same) in
      omega (arith, length_without (suc n) cs all top, all_counted n (without_caller (suc n) cs) rest fewer (agree_without (suc n) cs all))

-- one transcript more
pub transcripts_appended : (ls : List Leaver) (l : Leaver) → transcripts_length (ls ++ l ∷ []) ≡ transcripts_length ls + length l.caller.transcript
transcripts_appended [] l = omega arith
transcripts_appended (x ∷ xs) l = omega (arith, transcripts_appended xs l)

-- each record is of a caller that was handed out, or of the infrastructure itself
pub nobody_else : (rs : List Record) (handed : ℕ) (cs : List Leaver) (own : Caller) → AllHere handed cs → length cs ≤ handed → AllAgree rs cs own → own.number ≡ 0
    → length rs ≡ length own.transcript + transcripts_length cs → AreOfCallers handed rs
nobody_else rs handed cs own here few agree zero_is whole =
    let many = here_length handed cs here in
    let same : length cs ≡ handed = omega (arith, few, many) in
    let mine : length own.transcript ≡ length (records_by 0 rs) = ap length agree.1 ∙ ap (λ (n : ℕ). length (records_by n rs)) zero_is in
    let counted = all_counted rs handed cs here same (agree_all rs cs agree.0) in
    all_passed (λ (r : Record). ltb r.actor (suc handed)) (λ (r : Record). r.actor ≤ handed) (λ r below. grind (arith, nat_tests)) rs (below_counted (suc handed) rs ∙ omega (arith, counted, mine, whole))

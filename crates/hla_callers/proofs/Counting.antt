-- A list that has callers of all numbers up to n has at least n of them.
use Rattle.std.proofs.Common.{◌≡◌, ℕ, zero, suc, Bool, true, false, ◌||◌, ◌==◌, ◌+◌, ◌≤◌, ◌≢◌, cond, List, [], ◌∷◌, length, refl, sym, ◌∙◌, ap, arith, zero-le}
use Rattle.std.specs.List.{list_any}
use Rattle.std.proofs.lemmas.Bool.Decides.{nat_tests}
use Rattle.hla_callers.specs.Callers.{Leaver}
use Rattle.hla_callers.specs.Close.{AllHere}

-- without the first caller of this number
unfoldable pub without_caller : ℕ → List Leaver → List Leaver
without_caller n [] = []
without_caller n (c ∷ cs) = cond (c.caller.number == n) cs (c ∷ without_caller n cs)

pub shorter : (n : ℕ) (cs : List Leaver) → list_any (λ (c : Leaver). c.caller.number == n) cs ≡ true → length (without_caller n cs) + 1 ≡ length cs
unfolding without_caller
shorter n [] is = absurd (let no : false ≡ true = is in cc)
shorter n (c ∷ cs) is = go (shorter n cs) (c.caller.number == n) refl
  where
    go : (list_any (λ (d : Leaver). d.caller.number == n) cs ≡ true → length (without_caller n cs) + 1 ≡ length cs) → (b : Bool) → (c.caller.number == n) ≡ b → length (cond b cs (c ∷ without_caller n cs)) + 1 ≡ length (c ∷ cs)
    go ih true e = omega arith
    go ih false e =
        let there : list_any (λ (d : Leaver). d.caller.number == n) cs ≡ true = sym (ap (λ (t : Bool). t || list_any (λ (d : Leaver). d.caller.number == n) cs) e) ∙ is in
        omega (arith, ih there)

pub others : (n m : ℕ) (cs : List Leaver) → m ≢ n
    → list_any (λ (c : Leaver). c.caller.number == m) (without_caller n cs) ≡ list_any (λ (c : Leaver). c.caller.number == m) cs
unfolding without_caller
others n m [] ne = refl
others n m (c ∷ cs) ne = go (others n m cs ne) (c.caller.number == n) refl
  where
    go : list_any (λ (d : Leaver). d.caller.number == m) (without_caller n cs) ≡ list_any (λ (d : Leaver). d.caller.number == m) cs → (b : Bool) → (c.caller.number == n) ≡ b → list_any (λ (d : Leaver). d.caller.number == m) (cond b cs (c ∷ without_caller n cs)) ≡ list_any (λ (d : Leaver). d.caller.number == m) (c ∷ cs)
    go ih true e =
        let apart : (c.caller.number == m) ≡ false = grind (arith, nat_tests) in
        sym (ap (λ (t : Bool). t || list_any (λ (d : Leaver). d.caller.number == m) cs) apart)
    go ih false e = ap (λ (t : Bool). (c.caller.number == m) || t) ih

pub here_length : (n : ℕ) (cs : List Leaver) → AllHere n cs → n ≤ length cs
here_length zero cs here = zero-le
here_length (suc n) cs here =
    let top = here (suc n) (omega arith) (omega arith) in
    let rest : AllHere n (without_caller (suc n) cs) = λ m low high. (let ne : m ≢ suc n = omega arith in others (suc n) m cs ne ∙ here m low (omega arith)) in
    omega (arith, here_length n (without_caller (suc n) cs) rest, shorter (suc n) cs top)

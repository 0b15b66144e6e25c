-- To whom the retraction of a message goes, one federate after another
use mathlib.Core.Bool.{false≢true}
use Rattle.std.proofs.Common.{eqb-true, ◌≡◌, ℕ, zero, suc, ◌+◌, ◌<◌, ◌≤◌, cond, eqb, ltb, not, ◌&&◌, Bool, true, false, List, length, refl, sym, ap, ◌∙◌, ⊎_elim, arith}
use Rattle.std.proofs.lemmas.Bool.{cases_lt}
use Rattle.std.proofs.lemmas.Bool.Decides.{nat_tests}
use Rattle.std.proofs.Math.Path.{fun_ext}
use Rattle.hla_base.specs.Tables.{one_if}
use Rattle.hla_catalogue.specs.CatalogueValue.{empty_catalogue}
use Rattle.hla_machine.specs.Directory.{Directory, new_directory}
use Rattle.hla_machine.specs.Central.{Central, at3, is_key}
use Rattle.hla_machine.specs.Sends.{owed_to_receivers, is_told}
use Rattle.hla_machine.proofs.Basics.Bags.{key_parts}
use Rattle.hla_accounts.specs.declared.account.Account.{Account}
use Rattle.hla_accounts.specs.Accounts.{account_at, no_account, central_with, times_listed}
use Rattle.hla_accounts.specs.Calls.{is_told_of}
use Rattle.hla_accounts.proofs.AfterSteps.Accounts.{account_at-past}
use Rattle.hla_accounts.proofs.AfterSteps.Counts.{same_size}

and_false : (a b : Bool) → (a && (b && false)) ≡ false
and_false true true = refl
and_false true false = refl
and_false false b = refl

-- one more is owed to each number below n that is told
abbrev pub owed_below : (ℕ → Bool) → (ℕ → ℕ → ℕ → ℕ) → ℕ → ℕ → ℕ → ℕ → ℕ → ℕ → ℕ
owed_below told t g m n = λ h k f. t h k f + one_if (is_key g m h k && (told f && ltb f n))

-- number 0 is nobody's
pub owed_none : (told : ℕ → Bool) (t : ℕ → ℕ → ℕ → ℕ) (g m : ℕ) → told 0 ≡ false → t ≡ owed_below told t g m 1
owed_none told t g m nobody = fun_ext (λ h. fun_ext (λ k. fun_ext (λ f. by (is_key g m h k) (told f && ltb f 1) (below f) (t h k f))))
  where
    below : (f : ℕ) → (told f && ltb f 1) ≡ false
    below zero = rw nobody refl
    below (suc f) = let far : ltb (suc f) 1 ≡ false = grind (arith, nat_tests) in rw far (and_false true (told (suc f)))

    by : (a b : Bool) → b ≡ false → (x : ℕ) → x ≡ x + one_if (a && b)
    by true true e x = absurd (cc)
    by true false e x = omega arith
    by false b e x = omega arith

pub owed_more : (told : ℕ → Bool) (t : ℕ → ℕ → ℕ → ℕ) (g m n : ℕ) → told n ≡ true → at3 (owed_below told t g m n) g m n (owed_below told t g m n g m n + 1) ≡ owed_below told t g m (n + 1)
unfolding at3
owed_more told t g m n is = fun_ext (λ h. fun_ext (λ k. fun_ext (λ f. at h k f)))
  where
    at : (h k f : ℕ) → cond (is_key g m h k && eqb n f) (t g m n + one_if (is_key g m g m && (told n && ltb n n)) + 1) (t h k f + one_if (is_key g m h k && (told f && ltb f n))) ≡ t h k f + one_if (is_key g m h k && (told f && ltb f (n + 1)))
    at h k f = by (is_key g m h k) (eqb n f) refl refl
      where
        by : (b e : Bool) → is_key g m h k ≡ b → eqb n f ≡ e → cond (b && e) (t g m n + one_if (is_key g m g m && (told n && ltb n n)) + 1) (t h k f + one_if (b && (told f && ltb f n))) ≡ t h k f + one_if (b && (told f && ltb f (n + 1)))
        by false e y z = refl
        by true false y z = let same : ltb f n ≡ ltb f (n + 1) = grind (arith, nat_tests) in ap (λ b. t h k f + one_if (told f && b)) same
        by true true y z =
            let p = key_parts g m h k y in let q : n ≡ f = eqb-true n f z in
            let low : ltb n n ≡ false = grind (arith, nat_tests) in
            let high : ltb f (n + 1) ≡ true = grind (arith, nat_tests) in
            let none : (is_key g m g m && (told n && ltb n n)) ≡ false = rw low (and_false (is_key g m g m) (told n)) in
            let one : (told f && ltb f (n + 1)) ≡ true = rw (high, ← q, is) refl in
            let same : t g m n ≡ t h k f = λ i. t (p.0 i) (p.1 i) (q i) in
            let plain : t g m n + 0 + 1 ≡ t g m n + 1 = omega arith in
            ap (λ b. t g m n + one_if b + 1) none ∙ plain ∙ ap (λ x. x + 1) same ∙ ap (λ b. t h k f + one_if b) (sym one)

pub owed_same : (told : ℕ → Bool) (t : ℕ → ℕ → ℕ → ℕ) (g m n : ℕ) → told n ≡ false → owed_below told t g m n ≡ owed_below told t g m (n + 1)
owed_same told t g m n is = fun_ext (λ h. fun_ext (λ k. fun_ext (λ f. ap (λ b. t h k f + one_if (is_key g m h k && b)) (at f (eqb n f) refl))))
  where
    at : (f : ℕ) (e : Bool) → eqb n f ≡ e → (told f && ltb f n) ≡ (told f && ltb f (n + 1))
    at f true z = let q : n ≡ f = eqb-true n f z in rw (← q, is) refl
    at f false z = let same : ltb f n ≡ ltb f (n + 1) = grind (arith, nat_tests) in ap (λ b. told f && b) same

pub owed_all : (told : ℕ → Bool) (t : ℕ → ℕ → ℕ → ℕ) (g m n : ℕ) → ((f : ℕ) → told f ≡ true → f < n) → owed_below told t g m n ≡ owed_to_receivers t g m told
unfolding owed_to_receivers
owed_all told t g m n within = fun_ext (λ h. fun_ext (λ k. fun_ext (λ f. ap (λ b. t h k f + one_if (is_key g m h k && b)) (at f (told f) refl))))
  where
    at : (f : ℕ) (b : Bool) → told f ≡ b → (b && ltb f n) ≡ b
    at f true e = let l = within f e in grind (arith, nat_tests)
    at f false e = refl

-- ---- who is told
unjoined_first : (a b : Bool) → ((a && false) && b) ≡ false
unjoined_first true b = refl
unjoined_first false b = refl

pub nobody_told : (accounts : List Account) (g m : ℕ) → is_told_of accounts g m 0 ≡ false
nobody_told accounts g m = unjoined_first (not (eqb g 0)) _

pub told_within : (accounts : List Account) (g m f : ℕ) → is_told_of accounts g m f ≡ true → f < length accounts + 1
told_within accounts g m f is = ⊎_elim
    (λ (l : f < length accounts + 1). l)
    (λ (past : length accounts + 1 ≤ f). absurd (false≢true (sym (unjoined (account_at-past accounts f (omega (arith, past)))) ∙ is)))
    (cases_lt f (length accounts + 1))
  where
    unjoined : account_at accounts f ≡ no_account → is_told_of accounts g m f ≡ false
    unjoined nobody = rw nobody (unjoined_first (not (eqb g f)) _)

-- where only what is owed differs, the same are told, and there are as many accounts
pub told_same : (old new : List Account) (t : ℕ → ℕ → ℕ → ℕ) → ((d : Directory) → central_with d new ≡ record (central_with d old) { owed = t }) → (g m f : ℕ) → is_told_of new g m f ≡ is_told_of old g m f
told_same old new t same g m f = ap (λ (x : Central). is_told x.directory g (x.sent g m) f) (same (new_directory empty_catalogue))

-- ---- one federate after another
abbrev pub owed_in : List Account → ℕ → ℕ → ℕ → ℕ
owed_in accounts = λ g m f. times_listed (account_at accounts f).owed g m

-- the retraction of g's message with serial m is under way to those below n that are told
pub record IsOwedBelow (old new : List Account) (g m n : ℕ) : Type 0 where
  pub so_far : (d : Directory) → central_with d new ≡ record (central_with d old) { owed = owed_below (is_told_of old g m) (owed_in old) g m n }

pub owes_none : (accounts : List Account) (g m : ℕ) → IsOwedBelow accounts accounts g m 1
owes_none accounts g m = record {
  so_far = λ d. ap (λ (t : ℕ → ℕ → ℕ → ℕ). record (central_with d accounts) { owed = t }) (owed_none (is_told_of accounts g m) (owed_in accounts) g m (nobody_told accounts g m));
}

module _ (old new next : List Account) (g m n : ℕ) (h : IsOwedBelow old new g m n) where
  pub owes_size : length new ≡ length old
  owes_size = same_size old new (λ d. ap (λ (x : Central). x.directory.next_federate) (h.so_far d))

  told : is_told_of new g m n ≡ is_told_of old g m n
  told = told_same old new _ h.so_far g m n

  pub owes_more : is_told_of new g m n ≡ true → ((d : Directory) → central_with d next ≡ record (central_with d new) { owed = at3 (central_with d new).owed g m n ((central_with d new).owed g m n + 1) }) → IsOwedBelow old next g m (n + 1)
  owes_more is more = record {
    so_far = λ d. more d ∙ ap (λ (x : Central). record x { owed = at3 x.owed g m n (x.owed g m n + 1) }) (h.so_far d)
        ∙ ap (λ (t : ℕ → ℕ → ℕ → ℕ). record (central_with d old) { owed = t }) (owed_more (is_told_of old g m) (owed_in old) g m n (sym told ∙ is));
  }

  pub owes_same : is_told_of new g m n ≡ false → next ≡ new → IsOwedBelow old next g m (n + 1)
  owes_same is same = record {
    so_far = λ d. ap (central_with d) same ∙ h.so_far d
        ∙ ap (λ (t : ℕ → ℕ → ℕ → ℕ). record (central_with d old) { owed = t }) (owed_same (is_told_of old g m) (owed_in old) g m n (sym told ∙ is));
  }

  pub owes_all : length old + 1 ≤ n → (d : Directory) → central_with d new ≡ record (central_with d old) { owed = owed_to_receivers (central_with d old).owed g m (is_told_of old g m) }
  owes_all past d = h.so_far d ∙ ap (λ (t : ℕ → ℕ → ℕ → ℕ). record (central_with d old) { owed = t })
      (owed_all (is_told_of old g m) (owed_in old) g m n (λ f is. let l = told_within old g m f is in omega (arith, l, past)))

-- How often retractions are under way and due, after one account changed
use Rattle.std.proofs.Common.{eqb-true, ◌≡◌, ℕ, ◌+◌, ◌-◌, ◌<◌, ◌≤◌, cond, eqb, ◌&&◌, Bool, true, false, List, length, length-set, set, Option, Some, None, is_some, Result, Ok, Err, OnOk, refl, sym, ap, ◌∙◌, subst, arith}
use Rattle.std.proofs.Math.Path.{fun_ext}
use Rattle.hla_base.specs.Tables.{upd, one_if}
use Rattle.hla_base.specs.Rows.{is_none_of}
use Rattle.hla_base.specs.declared.number.EventHandle.{EventHandle}
use Rattle.hla_catalogue.specs.CatalogueValue.{empty_catalogue}
use Rattle.hla_retraction.specs.SentRows.{sent_of}
use Rattle.hla_machine.specs.Directory.{Directory, new_directory}
use Rattle.hla_machine.specs.Central.{Central, Copy, at_key, at3, is_key}
use Rattle.hla_machine.specs.Machine.{after_retraction_arrival}
use Rattle.hla_machine.proofs.Basics.Bags.{key_parts}
use Rattle.hla_accounts.specs.declared.account.Account.{Account}
use Rattle.hla_accounts.specs.Accounts.{AreKept, account_at, central_with, copy_at, offers_from, times_listed}
use Rattle.hla_accounts.proofs.AfterSteps.OneAccount.{field, field_same, kept_changed, due_changed}

pub on_ok : {X E P Q : Type 0} (r : Result X E) → (P → Q) → OnOk r P → OnOk r Q
on_ok (Ok x) f p = f p
on_ok (Err e) f p = tt

-- a table of counts, in which what one federate has of one event is another number
pub counts_set : (t : ℕ → ℕ → ℕ → ℕ) (op : ℕ → ℕ) (u : ℕ → ℕ → ℕ) (g m f : ℕ) → ((h n : ℕ) → u h n ≡ cond (is_key g m h n) (op (t h n f)) (t h n f)) → (λ h n. upd (t h n) f (u h n)) ≡ at3 t g m f (op (t g m f))
unfolding upd at3
counts_set t op u g m f is = fun_ext (λ h. fun_ext (λ n. fun_ext (λ k. at h n k)))
  where
    at : (h n k : ℕ) → cond (eqb f k) (u h n) (t h n k) ≡ cond (is_key g m h n && eqb f k) (op (t g m f)) (t h n k)
    at h n k = by (eqb f k) (is_key g m h n) refl refl
      where
        by : (b c : Bool) → eqb f k ≡ b → is_key g m h n ≡ c → cond b (u h n) (t h n k) ≡ cond (c && b) (op (t g m f)) (t h n k)
        by false true y z = refl
        by false false y z = refl
        by true true y z = let p = key_parts g m h n z in is h n ∙ rw z (λ i. op (t (sym p.0 i) (sym p.1 i) f))
        by true false y z = let e : f ≡ k = eqb-true f k y in is h n ∙ rw z (ap (λ j. t h n j) e)

more_if : (b : Bool) (x : ℕ) → x + one_if b ≡ cond b (x + 1) x
more_if true x = refl
more_if false x = omega arith

module _ (d : Directory) (accounts : List Account) (f : ℕ) (some : 0 < f) (within : f ≤ length accounts) where
  -- one request more
  pub due_added : (x : Account) (es : List EventHandle) (g m : ℕ) → x ≡ account_at accounts f → ((h n : ℕ) → times_listed es h n ≡ times_listed x.due h n + one_if (is_key g m h n)) →
      central_with d (set accounts (f - 1) (record x { due = es })) ≡ record (central_with d accounts) { due = at3 (central_with d accounts).due g m f ((central_with d accounts).due g m f + 1) }
  due_added x es g m is more =
      ap (λ (a : Account). central_with d (set accounts (f - 1) (record a { due = es }))) is
      ∙ due_changed d accounts f some within es
      ∙ ap (λ (t : ℕ → ℕ → ℕ → ℕ). record (central_with d accounts) { due = t })
      (counts_set (central_with d accounts).due (λ v. v + 1) (times_listed es) g m f (λ h n. more h n ∙ ap (λ (a : Account). times_listed a.due h n + one_if (is_key g m h n)) is ∙ more_if (is_key g m h n) _))

  -- only what is owed changes
  owed_changed : (es : List EventHandle) → central_with d (set accounts (f - 1) (record (account_at accounts f) { owed = es })) ≡ record (central_with d accounts) { owed = λ g m. upd ((central_with d accounts).owed g m) f (times_listed es g m) }
  owed_changed es =
      let a : Account = record (account_at accounts f) { owed = es } in
      λ i. record {
        directory = record d {
          next_federate = length-set accounts (f - 1) a i + 1;
          joined = field_same accounts f some within a (λ x. x.is_joined) refl i;
          name = field_same accounts f some within a (λ x. x.name) refl i;
        };
        row = field_same accounts f some within a (λ x. x.state) refl i;
        serial = field_same accounts f some within a (λ x. x.next_serial) refl i;
        bag = λ g m. field_same accounts f some within a (λ x. copy_at x.bag g m) refl i;
        discoveries = λ g. field_same accounts f some within a (λ x. offers_from g x.offers) refl i;
        sent = field_same accounts f some within a (λ x. sent_of x.sent) refl i;
        owed = λ g m. field accounts f some within a (λ x. times_listed x.owed g m) i;
        due = λ g m. field_same accounts f some within a (λ x. times_listed x.due g m) refl i;
        notices = field_same accounts f some within a (λ x. x.notices) refl i;
      }

  -- one retraction more
  pub owed_added : (x : Account) (es : List EventHandle) (g m : ℕ) → x ≡ account_at accounts f → ((h n : ℕ) → times_listed es h n ≡ times_listed x.owed h n + one_if (is_key g m h n)) →
      central_with d (set accounts (f - 1) (record x { owed = es })) ≡ record (central_with d accounts) { owed = at3 (central_with d accounts).owed g m f ((central_with d accounts).owed g m f + 1) }
  owed_added x es g m is more =
      ap (λ (a : Account). central_with d (set accounts (f - 1) (record a { owed = es }))) is
      ∙ owed_changed es
      ∙ ap (λ (t : ℕ → ℕ → ℕ → ℕ). record (central_with d accounts) { owed = t })
      (counts_set (central_with d accounts).owed (λ v. v + 1) (times_listed es) g m f (λ h n. more h n ∙ ap (λ (a : Account). times_listed a.owed h n + one_if (is_key g m h n)) is ∙ more_if (is_key g m h n) _))

  -- one retraction less
  pub owed_taken : (x : Account) (es : List EventHandle) (g m : ℕ) → x ≡ account_at accounts f → ((h n : ℕ) → times_listed es h n ≡ cond (is_key g m h n) (times_listed x.owed h n - 1) (times_listed x.owed h n)) →
      central_with d (set accounts (f - 1) (record x { owed = es })) ≡ record (central_with d accounts) { owed = at3 (central_with d accounts).owed g m f ((central_with d accounts).owed g m f - 1) }
  owed_taken x es g m is less =
      ap (λ (a : Account). central_with d (set accounts (f - 1) (record a { owed = es }))) is
      ∙ owed_changed es
      ∙ ap (λ (t : ℕ → ℕ → ℕ → ℕ). record (central_with d accounts) { owed = t })
      (counts_set (central_with d accounts).owed (λ v. v - 1) (times_listed es) g m f (λ h n. less h n ∙ ap (λ (a : Account). cond (is_key g m h n) (times_listed a.owed h n - 1) (times_listed a.owed h n)) is))

pub owed_kept : (accounts : List Account) (f : ℕ) → 0 < f → f ≤ length accounts → AreKept accounts → (x : Account) (es : List EventHandle) → x ≡ account_at accounts f → AreKept (set accounts (f - 1) (record x { owed = es }))
owed_kept accounts f some within kept x es is = subst (λ (a : Account). AreKept (set accounts (f - 1) (record a { owed = es }))) (sym is)
    (kept_changed accounts f some within kept (record (account_at accounts f) { owed = es }) refl refl (kept.apart f) (λ g m none. none))

-- ---- a retraction that arrives
at3_itself : (t : ℕ → ℕ → ℕ → ℕ) (g m f x : ℕ) → x ≡ t g m f → at3 t g m f x ≡ t
unfolding at3
at3_itself t g m f x same = fun_ext (λ h. fun_ext (λ n. fun_ext (λ k. by h n k (is_key g m h n) (eqb f k) refl refl)))
  where
    by : (h n k : ℕ) (b c : Bool) → is_key g m h n ≡ b → eqb f k ≡ c → cond (b && c) x (t h n k) ≡ t h n k
    by h n k true true y z = let p = key_parts g m h n y in let e = eqb-true f k z in same ∙ λ i. t (p.0 i) (p.1 i) (e i)
    by h n k true false y z = refl
    by h n k false true y z = refl
    by h n k false false y z = refl

module _ (c : Central) (g f m : ℕ) where
  -- the federate is to be asked, and nothing waits
  pub settled_asking : is_some (c.bag g m f) ≡ false →
      record c { due = at3 c.due g m f (c.due g m f + 1); bag = at_key c.bag g m f None; owed = at3 c.owed g m f (c.owed g m f - 1) } ≡ after_retraction_arrival c g f m
  settled_asking none = ap (λ (v : ℕ). record c { due = at3 c.due g m f (c.due g m f + v); bag = at_key c.bag g m f None; owed = at3 c.owed g m f (c.owed g m f - 1) }) (by (c.bag g m f) none)
    where
      by : (o : Option Copy) → is_some o ≡ false → 1 ≡ one_if (is_none_of o)
      by None e = refl
      by (Some k) e = absurd (cc)

  -- the message is taken back
  pub settled_taking : is_some (c.bag g m f) ≡ true →
      record c { bag = at_key c.bag g m f None; owed = at3 c.owed g m f (c.owed g m f - 1) } ≡ after_retraction_arrival c g f m
  settled_taking there = ap (λ (t : ℕ → ℕ → ℕ → ℕ). record c { due = t; bag = at_key c.bag g m f None; owed = at3 c.owed g m f (c.owed g m f - 1) })
      (sym (at3_itself c.due g m f (c.due g m f + one_if (is_none_of (c.bag g m f))) (by (c.bag g m f) there (c.due g m f))))
    where
      by : (o : Option Copy) → is_some o ≡ true → (x : ℕ) → x + one_if (is_none_of o) ≡ x
      by None e x = absurd (cc)
      by (Some k) e x = omega arith

-- ---- sizes
-- as many accounts, where the next number is the same with any directory
pub same_size : (old new : List Account) → ((d : Directory) → (central_with d new).directory.next_federate ≡ (central_with d old).directory.next_federate) → length new ≡ length old
same_size old new same = let e : length new + 1 ≡ length old + 1 = same (new_directory empty_catalogue) in omega (arith, e)

-- What federates are to be told of synchronization points, after a change
use Rattle.std.proofs.Common.{eqb-true, ◌≡◌, ℕ, zero, suc, ◌+◌, ◌-◌, ◌<◌, ◌≤◌, cond, eqb, ltb, ◌&&◌, Bool, true, false, List, [], ◌∷◌, ◌++◌, drop, length, length-set, set, refl, sym, ap, ◌∙◌, subst, ⊎_elim, arith}
use mathlib.Core.Bool.{false≢true}
use Rattle.std.proofs.lemmas.Bool.{cases_lt}
use Rattle.std.proofs.lemmas.Bool.Decides.{nat_tests}
use Rattle.std.proofs.lemmas.List.{append-nil}
use Rattle.std.proofs.Math.Path.{fun_ext}
use Rattle.hla_base.specs.declared.notice.Notice.{Notice}
use Rattle.hla_base.specs.Tables.{upd}
use Rattle.hla_catalogue.specs.CatalogueValue.{empty_catalogue}
use Rattle.hla_retraction.specs.SentRows.{sent_of}
use Rattle.hla_machine.specs.Directory.{Directory, new_directory}
use Rattle.hla_machine.specs.Central.{Central}
use Rattle.hla_machine.specs.Machine.{with_told}
use Rattle.hla_accounts.specs.declared.account.Account.{Account}
use Rattle.hla_accounts.specs.Accounts.{AreKept, account_at, central_with, copy_at, offers_from, times_listed}
use Rattle.hla_accounts.specs.Notices.{told_alone, told_to_all}
use Rattle.hla_accounts.proofs.AfterSteps.Accounts.{account_at-past}
use Rattle.hla_accounts.proofs.AfterSteps.Counts.{same_size}
use Rattle.hla_accounts.proofs.AfterSteps.OneAccount.{field, field_same, kept_changed}

-- more for one federate, as a table
pub notices_added : (t : ℕ → List Notice) (f : ℕ) (more : List Notice) → upd t f (t f ++ more) ≡ (λ g. t g ++ cond (eqb f g) more [])
unfolding upd
notices_added t f more = fun_ext (λ g. at g (eqb f g) refl)
  where
    at : (g : ℕ) (b : Bool) → eqb f g ≡ b → cond b (t f ++ more) (t g) ≡ t g ++ cond b more []
    at g true e = ap (λ h. t h ++ more) (eqb-true f g e)
    at g false e = sym (append-nil (t g))

module _ (d : Directory) (accounts : List Account) (f : ℕ) (some : 0 < f) (within : f ≤ length accounts) where
  -- only what the federate is to be told changes
  notices_changed : (ns : List Notice) → central_with d (set accounts (f - 1) (record (account_at accounts f) { notices = ns })) ≡ record (central_with d accounts) { notices = upd (central_with d accounts).notices f ns }
  notices_changed ns =
      let a : Account = record (account_at accounts f) { notices = ns } in
      λ i. record {
        directory = record d {
          next_federate = length-set accounts (f - 1) a i + 1;
          joined = field_same accounts f some within a (λ x. x.is_joined) refl i;
          name = field_same accounts f some within a (λ x. x.name) refl i;
        };
        row = field_same accounts f some within a (λ x. x.state) refl i;
        serial = field_same accounts f some within a (λ x. x.next_serial) refl i;
        bag = λ g m. field_same accounts f some within a (λ x. copy_at x.bag g m) refl i;
        discoveries = λ g. field_same accounts f some within a (λ x. offers_from g x.offers) refl i;
        sent = field_same accounts f some within a (λ x. sent_of x.sent) refl i;
        owed = λ g m. field_same accounts f some within a (λ x. times_listed x.owed g m) refl i;
        due = λ g m. field_same accounts f some within a (λ x. times_listed x.due g m) refl i;
        notices = field accounts f some within a (λ x. x.notices) i;
      }

  -- x is what was read of the account
  pub notice_taken : (x : Account) (ns : List Notice) → x ≡ account_at accounts f → ns ≡ drop 1 x.notices →
      central_with d (set accounts (f - 1) (record x { notices = ns })) ≡ record (central_with d accounts) { notices = upd (central_with d accounts).notices f (drop 1 ((central_with d accounts).notices f)) }
  notice_taken x ns is taken =
      ap (λ (a : Account). central_with d (set accounts (f - 1) (record a { notices = ns }))) is
      ∙ notices_changed ns
      ∙ ap (λ (ms : List Notice). record (central_with d accounts) { notices = upd (central_with d accounts).notices f ms }) (taken ∙ ap (λ (a : Account). drop 1 a.notices) is)

  pub notice_told : (x : Account) (ns : List Notice) (n : Notice) → x ≡ account_at accounts f → ns ≡ x.notices ++ n ∷ [] →
      central_with d (set accounts (f - 1) (record x { notices = ns })) ≡ with_told (central_with d accounts) (told_alone f n)
  notice_told x ns n is told =
      ap (λ (a : Account). central_with d (set accounts (f - 1) (record a { notices = ns }))) is
      ∙ notices_changed ns
      ∙ ap (λ (t : ℕ → List Notice). record (central_with d accounts) { notices = t })
      (ap (upd (central_with d accounts).notices f) (told ∙ ap (λ (a : Account). a.notices ++ n ∷ []) is) ∙ notices_added (central_with d accounts).notices f (n ∷ []))

pub notices_kept : (accounts : List Account) (f : ℕ) → 0 < f → f ≤ length accounts → AreKept accounts → (x : Account) (ns : List Notice) → x ≡ account_at accounts f → AreKept (set accounts (f - 1) (record x { notices = ns }))
notices_kept accounts f some within kept x ns is = subst (λ (a : Account). AreKept (set accounts (f - 1) (record a { notices = ns }))) (sym is)
    (kept_changed accounts f some within kept (record (account_at accounts f) { notices = ns }) refl refl (kept.apart f) (λ g m none. none))

-- ---- one federate after another
-- those below n that are joined are told
abbrev pub notices_below : (ℕ → Bool) → Notice → ℕ → ℕ → List Notice
notices_below joined x n g = cond (joined g && ltb g n) (x ∷ []) []

-- number 0 is nobody's
notices_none : (joined : ℕ → Bool) (t : ℕ → List Notice) (x : Notice) → joined 0 ≡ false → t ≡ (λ g. t g ++ notices_below joined x 1 g)
notices_none joined t x nobody = fun_ext (λ g. by (joined g && ltb g 1) (below g) (t g))
  where
    and_false : (b : Bool) → (b && false) ≡ false
    and_false true = refl
    and_false false = refl

    below : (g : ℕ) → (joined g && ltb g 1) ≡ false
    below zero = rw nobody refl
    below (suc g) = let far : ltb (suc g) 1 ≡ false = grind (arith, nat_tests) in rw far (and_false (joined (suc g)))

    by : (b : Bool) → b ≡ false → (ns : List Notice) → ns ≡ ns ++ cond b (x ∷ []) []
    by true e ns = absurd (cc)
    by false e ns = sym (append-nil ns)

notices_more : (joined : ℕ → Bool) (t : ℕ → List Notice) (x : Notice) (n : ℕ) → joined n ≡ true → ◌≡◌ {A = ℕ → List Notice} (λ g. (t g ++ notices_below joined x n g) ++ told_alone n x g) (λ g. t g ++ notices_below joined x (n + 1) g)
notices_more joined t x n is = fun_ext (λ g. at g (eqb n g) refl)
  where
    at : (g : ℕ) (b : Bool) → eqb n g ≡ b → (t g ++ notices_below joined x n g) ++ cond b (x ∷ []) [] ≡ t g ++ notices_below joined x (n + 1) g
    at g true e =
        let q : n ≡ g = eqb-true n g e in
        let here : joined g ≡ true = subst (λ k. joined k ≡ true) q is in
        let low : ltb g n ≡ false = grind (arith, nat_tests) in
        let high : ltb g (n + 1) ≡ true = grind (arith, nat_tests) in
        rw (here, low, high) (ap (λ (ns : List Notice). ns ++ x ∷ []) (append-nil (t g)))
    at g false e =
        let same : ltb g n ≡ ltb g (n + 1) = grind (arith, nat_tests) in
        append-nil (t g ++ notices_below joined x n g) ∙ ap (λ b. t g ++ cond (joined g && b) (x ∷ []) []) same

notices_same : (joined : ℕ → Bool) (t : ℕ → List Notice) (x : Notice) (n : ℕ) → joined n ≡ false → ◌≡◌ {A = ℕ → List Notice} (λ g. t g ++ notices_below joined x n g) (λ g. t g ++ notices_below joined x (n + 1) g)
notices_same joined t x n is = fun_ext (λ g. ap (λ b. t g ++ cond b (x ∷ []) []) (at g (eqb n g) refl))
  where
    at : (g : ℕ) (e : Bool) → eqb n g ≡ e → (joined g && ltb g n) ≡ (joined g && ltb g (n + 1))
    at g true z = let q : n ≡ g = eqb-true n g z in let here : joined g ≡ false = subst (λ k. joined k ≡ false) q is in rw here refl
    at g false z = let same : ltb g n ≡ ltb g (n + 1) = grind (arith, nat_tests) in ap (λ b. joined g && b) same

notices_each : (joined : ℕ → Bool) (t : ℕ → List Notice) (x : Notice) (n : ℕ) → ((g : ℕ) → joined g ≡ true → g < n) → ◌≡◌ {A = ℕ → List Notice} (λ g. t g ++ notices_below joined x n g) (λ g. t g ++ cond (joined g) (x ∷ []) [])
notices_each joined t x n within = fun_ext (λ g. ap (λ b. t g ++ cond b (x ∷ []) []) (at g (joined g) refl))
  where
    at : (g : ℕ) (b : Bool) → joined g ≡ b → (b && ltb g n) ≡ b
    at g true e = let l = within g e in grind (arith, nat_tests)
    at g false e = refl

pub joined_within : (accounts : List Account) (f : ℕ) → (account_at accounts f).is_joined ≡ true → f < length accounts + 1
joined_within accounts f is = ⊎_elim
    (λ (l : f < length accounts + 1). l)
    (λ (past : length accounts + 1 ≤ f). absurd (false≢true (ap (λ (a : Account). a.is_joined) (sym (account_at-past accounts f (omega (arith, past)))) ∙ is)))
    (cases_lt f (length accounts + 1))

-- those below n that are joined are told
pub record IsToldBelow (old new : List Account) (x : Notice) (n : ℕ) : Type 0 where
  pub so_far : (d : Directory) → central_with d new ≡ with_told (central_with d old) (notices_below (λ g. (account_at old g).is_joined) x n)

pub tells_none : (accounts : List Account) (x : Notice) → IsToldBelow accounts accounts x 1
tells_none accounts x = record {
  so_far = λ d. ap (λ (t : ℕ → List Notice). record (central_with d accounts) { notices = t }) (notices_none (λ g. (account_at accounts g).is_joined) (central_with d accounts).notices x refl);
}

module _ (old new next : List Account) (x : Notice) (n : ℕ) (h : IsToldBelow old new x n) where
  pub tells_size : length new ≡ length old
  tells_size = same_size old new (λ d. ap (λ (c : Central). c.directory.next_federate) (h.so_far d))

  joined_same : (account_at new n).is_joined ≡ (account_at old n).is_joined
  joined_same = ap (λ (c : Central). c.directory.joined n) (h.so_far (new_directory empty_catalogue))

  pub tells_more : (account_at new n).is_joined ≡ true → ((d : Directory) → central_with d next ≡ with_told (central_with d new) (told_alone n x)) → IsToldBelow old next x (n + 1)
  tells_more is more = record {
    so_far = λ d. more d ∙ ap (λ (c : Central). with_told c (told_alone n x)) (h.so_far d)
        ∙ ap (λ (t : ℕ → List Notice). record (central_with d old) { notices = t }) (notices_more (λ g. (account_at old g).is_joined) (central_with d old).notices x n (sym joined_same ∙ is));
  }

  pub tells_same : (account_at new n).is_joined ≡ false → next ≡ new → IsToldBelow old next x (n + 1)
  tells_same is same = record {
    so_far = λ d. ap (central_with d) same ∙ h.so_far d
        ∙ ap (λ (t : ℕ → List Notice). record (central_with d old) { notices = t }) (notices_same (λ g. (account_at old g).is_joined) (central_with d old).notices x n (sym joined_same ∙ is));
  }

  pub tells_all : length old + 1 ≤ n → (d : Directory) → central_with d new ≡ with_told (central_with d old) (told_to_all (central_with d old).directory x)
  tells_all past d = h.so_far d ∙ ap (λ (t : ℕ → List Notice). record (central_with d old) { notices = t })
      (notices_each (λ g. (account_at old g).is_joined) (central_with d old).notices x n (λ f is. let l = joined_within old f is in omega (arith, l, past)))

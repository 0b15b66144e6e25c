-- The state that accounts stand for, after one account changed
use mathlib.Core.Bool.{true≢false, false≢true}
use Rattle.std.proofs.Common.{eqb-true, ◌≡◌, ◌≢◌, ℕ, zero, suc, ◌+◌, ◌-◌, ◌<◌, ◌≤◌, cond, eqb, ◌&&◌, ◌||◌, not, Bool, true, false, List, [], ◌∷◌, length, get_or, set, Option, Some, None, option_map, refl, sym, ap, ◌∙◌, subst, ⊎_elim, arith, length-set, get_or-set_same, get_or-set_other}
use Rattle.std.proofs.lemmas.Bool.{cases_Bool, cases_eq}
use Rattle.std.proofs.lemmas.Bool.Decides.{nat_tests}
use Rattle.std.proofs.lemmas.List.{get_or_default}
use Rattle.std.proofs.Math.Path.{fun_ext}
use Rattle.hla_base.specs.declared.row.TimeRow.{TimeRow}
use Rattle.hla_base.specs.Tables.{upd, upd2}
use Rattle.hla_base.specs.declared.number.EventHandle.{EventHandle}
use Rattle.hla_base.specs.declared.content.Content.{Content}
use Rattle.hla_callbacks.specs.declared.callback.Delivery.{Delivery}
use Rattle.hla_callbacks.specs.declared.callback.Delivery.TheVariants.{Receive, Demoted, TimeStamp}
use Rattle.hla_base.proofs.Tables.{upd_each}
use Rattle.hla_retraction.specs.SentRows.{sent_of}
use Rattle.hla_machine.specs.Directory.{Directory}
use Rattle.hla_machine.specs.Central.{Central, Copy, at_key, at3, is_key, demoted_copy}
use Rattle.hla_base.specs.Rows.{is_disabled}
use Rattle.hla_machine.specs.Machine.{after_arrival}
use Rattle.hla_machine.specs.Callbacks.{with_central_row, with_demoted}
use Rattle.hla_machine.proofs.Basics.Bags.{bag_ext, key_parts}
use Rattle.hla_accounts.specs.declared.account.Account.{Account}
use Rattle.hla_bags.specs.declared.bag.Waiting.{Waiting}
use Rattle.hla_bags.specs.Bags.{waiting_at, AreApart, is_listed, demoted_delivery, demoted_waiting, with_listed_demoted}
use Rattle.hla_accounts.specs.Accounts.{AreKept, account_at, no_account, central_with, copy_at, copy_of, copy_given, offers_from, times_listed}

-- a table that is written what it has
pub upd_itself : {X : Type 0} (t : ℕ → X) (f : ℕ) (x : X) → x ≡ t f → upd t f x ≡ t
unfolding upd
upd_itself t f x same = fun_ext (λ g. ⊎_elim
    (λ (y : eqb f g ≡ true). let e : f ≡ g = grind (arith, nat_tests) in rw y (same ∙ ap t e))
    (λ (n : eqb f g ≡ false). rw n refl)
    (cases_Bool (eqb f g)))

-- what is read of the entries of a table after one changed
pub upd_read : {X Y : Type 0} (p : X → Y) (t : ℕ → X) (f : ℕ) (x : X) → (λ g. p (upd t f x g)) ≡ upd (λ g. p (t g)) f (p x)
unfolding upd
upd_read p t f x = fun_ext (λ g. ⊎_elim (λ (y : eqb f g ≡ true). rw y refl) (λ (n : eqb f g ≡ false). rw n refl) (cases_Bool (eqb f g)))

pub account_at-set : (accounts : List Account) (f : ℕ) (a : Account) → 0 < f → f ≤ length accounts → account_at (set accounts (f - 1) a) ≡ upd (account_at accounts) f a
unfolding upd
account_at-set accounts zero a some within = absurd (omega arith)
account_at-set accounts (suc k) a some within = let at : suc k - 1 ≡ k = omega arith in rw at (fun_ext (λ g. each g))
  where
    each : (g : ℕ) → account_at (set accounts k a) g ≡ cond (eqb (suc k) g) a (account_at accounts g)
    each zero = let n : eqb (suc k) 0 ≡ false = grind (arith, nat_tests) in rw n refl
    each (suc j) = ⊎_elim
        (λ (e : k ≡ j). let y : eqb (suc k) (suc j) ≡ true = grind (arith, nat_tests) in rw (y, ← e) (get_or-set_same accounts k a no_account (omega (arith, within))))
        (λ (ne : k ≢ j). let n : eqb (suc k) (suc j) ≡ false = grind (arith, nat_tests) in let back : j ≢ k = λ e. ne (sym e) in rw n (get_or-set_other accounts k j a no_account back))
        (cases_eq k j)

-- what a read of the list gives is the account with the number
pub account_read : (accounts : List Account) (f : ℕ) (a : Account) → 0 < f → f ≤ length accounts → a ≡ get_or accounts (f - 1) a → a ≡ account_at accounts f
account_read accounts zero a some within e = absurd (omega (arith, some))
account_read accounts (suc k) a some within e =
    let at : suc k - 1 ≡ k = omega arith in
    let read = rw at at e in read ∙ get_or_default accounts k a no_account (omega (arith, within))

-- the same of the list that is shown
pub account_shown : (items accounts : List Account) → items ≡ accounts → (f : ℕ) (a : Account) → 0 < f → f ≤ length accounts → a ≡ get_or items (f - 1) a → a ≡ account_at accounts f
account_shown items accounts same f a some within e = account_read accounts f a some within (e ∙ ap (λ v. get_or v (f - 1) a) same)

-- what is read of each account
abbrev pub fields : {Y : Type 0} → (Account → Y) → List Account → ℕ → Y
fields p accounts = λ g. p (account_at accounts g)

module _ (accounts : List Account) (f : ℕ) (some : 0 < f) (within : f ≤ length accounts) where
  pub field : {Y : Type 0} (a : Account) (p : Account → Y) → fields p (set accounts (f - 1) a) ≡ upd (fields p accounts) f (p a)
  field a p = (λ i. λ g. p (account_at-set accounts f a some within i g)) ∙ upd_read p (account_at accounts) f a

  -- what is as it was is read as it was
  pub field_same : {Y : Type 0} (a : Account) (p : Account → Y) → p a ≡ p (account_at accounts f) → fields p (set accounts (f - 1) a) ≡ fields p accounts
  field_same a p same = field a p ∙ upd_itself (fields p accounts) f (p a) same

  -- where serials and what was sent are as they were, and the bag has nothing new, all is kept
  pub kept_changed : AreKept accounts → (a : Account) → a.next_serial ≡ (account_at accounts f).next_serial → a.sent ≡ (account_at accounts f).sent → AreApart a.bag →
      ((g m : ℕ) → waiting_at (account_at accounts f).bag g m ≡ None → waiting_at a.bag g m ≡ None) → AreKept (set accounts (f - 1) a)
  kept_changed kept a serial sent apart fewer = record {
    few = rw length-set kept.few;
    apart = λ g. rw table (upd_each (account_at accounts) f a (λ g x. AreApart x.bag) apart (λ g ne. kept.apart g) g);
    unused = λ g h m le. rw table (upd_each (account_at accounts) f a (λ g x. waiting_at x.bag h m ≡ None)
        (fewer h m (kept.unused f h m (subst (λ t. t h ≤ m) serials le))) (λ j ne. kept.unused j h m (subst (λ t. t h ≤ m) serials le)) g);
    unsent = λ g m le. ap (λ t. t m) (λ i. sents i g) ∙ kept.unsent g m (subst (λ t. t g ≤ m) serials le);
  }
    where
      table : account_at (set accounts (f - 1) a) ≡ upd (account_at accounts) f a
      table = account_at-set accounts f a some within

      serials : fields (λ x. x.next_serial) (set accounts (f - 1) a) ≡ fields (λ x. x.next_serial) accounts
      serials = field_same a (λ x. x.next_serial) serial

      sents : fields (λ x. sent_of x.sent) (set accounts (f - 1) a) ≡ fields (λ x. sent_of x.sent) accounts
      sents = field_same a (λ x. sent_of x.sent) (ap sent_of sent)

  -- x is what was read of the account
  pub row_kept : AreKept accounts → (x : Account) (r : TimeRow) → x ≡ account_at accounts f → AreKept (set accounts (f - 1) (record x { state = r }))
  row_kept kept x r is = subst (λ (a : Account). AreKept (set accounts (f - 1) (record a { state = r }))) (sym is)
      (kept_changed kept (record (account_at accounts f) { state = r }) refl refl (kept.apart f) (λ g m none. none))

  pub bag_kept : AreKept accounts → (x : Account) (ws : List Waiting) → x ≡ account_at accounts f → AreApart ws → ((g m : ℕ) → waiting_at x.bag g m ≡ None → waiting_at ws g m ≡ None) → AreKept (set accounts (f - 1) (record x { bag = ws }))
  bag_kept kept x ws is apart fewer = subst (λ (a : Account). AreKept (set accounts (f - 1) (record a { bag = ws }))) (sym is)
      (kept_changed kept (record (account_at accounts f) { bag = ws }) refl refl apart (λ g m none. fewer g m (ap (λ (a : Account). waiting_at a.bag g m) is ∙ none)))

module _ (d : Directory) (accounts : List Account) (f : ℕ) (some : 0 < f) (within : f ≤ length accounts) where
  -- only the row changes
  pub row_changed : (r : TimeRow) → central_with d (set accounts (f - 1) (record (account_at accounts f) { state = r })) ≡ with_central_row (central_with d accounts) f r
  row_changed r =
      let a : Account = record (account_at accounts f) { state = r } in
      λ i. record {
        directory = record d {
          next_federate = length-set accounts (f - 1) a i + 1;
          joined = field_same accounts f some within a (λ x. x.is_joined) refl i;
          name = field_same accounts f some within a (λ x. x.name) refl i;
        };
        row = field accounts f some within a (λ x. x.state) i;
        serial = field_same accounts f some within a (λ x. x.next_serial) refl i;
        bag = λ g m. field_same accounts f some within a (λ x. copy_at x.bag g m) refl i;
        discoveries = λ g. field_same accounts f some within a (λ x. offers_from g x.offers) refl i;
        sent = field_same accounts f some within a (λ x. sent_of x.sent) refl i;
        owed = λ g m. field_same accounts f some within a (λ x. times_listed x.owed g m) refl i;
        due = λ g m. field_same accounts f some within a (λ x. times_listed x.due g m) refl i;
        notices = field_same accounts f some within a (λ x. x.notices) refl i;
      }

  -- only the bag changes
  pub bag_changed : (ws : List Waiting) → central_with d (set accounts (f - 1) (record (account_at accounts f) { bag = ws })) ≡ record (central_with d accounts) { bag = λ g m. upd ((central_with d accounts).bag g m) f (copy_at ws g m) }
  bag_changed ws =
      let a : Account = record (account_at accounts f) { bag = ws } in
      λ i. record {
        directory = record d {
          next_federate = length-set accounts (f - 1) a i + 1;
          joined = field_same accounts f some within a (λ x. x.is_joined) refl i;
          name = field_same accounts f some within a (λ x. x.name) refl i;
        };
        row = field_same accounts f some within a (λ x. x.state) refl i;
        serial = field_same accounts f some within a (λ x. x.next_serial) refl i;
        bag = λ g m. field accounts f some within a (λ x. copy_at x.bag g m) i;
        discoveries = λ g. field_same accounts f some within a (λ x. offers_from g x.offers) refl i;
        sent = field_same accounts f some within a (λ x. sent_of x.sent) refl i;
        owed = λ g m. field_same accounts f some within a (λ x. times_listed x.owed g m) refl i;
        due = λ g m. field_same accounts f some within a (λ x. times_listed x.due g m) refl i;
        notices = field_same accounts f some within a (λ x. x.notices) refl i;
      }

  -- ---- a row
  -- x is what was read of the account
  pub row_set : (x : Account) (r : TimeRow) → x ≡ account_at accounts f → central_with d (set accounts (f - 1) (record x { state = r })) ≡ with_central_row (central_with d accounts) f r
  row_set x r is = ap (λ (a : Account). central_with d (set accounts (f - 1) (record a { state = r }))) is ∙ row_changed r

  -- ---- a bag
  bag_set : (x : Account) (ws : List Waiting) (bag : ℕ → ℕ → ℕ → Option Copy) → x ≡ account_at accounts f → ((h n k : ℕ) → upd ((central_with d accounts).bag h n) f (copy_at ws h n) k ≡ bag h n k) →
      central_with d (set accounts (f - 1) (record x { bag = ws })) ≡ record (central_with d accounts) { bag = bag }
  bag_set x ws bag is each =
      ap (λ (a : Account). central_with d (set accounts (f - 1) (record a { bag = ws }))) is
      ∙ bag_changed ws
      ∙ ap (λ (b : ℕ → ℕ → ℕ → Option Copy). record (central_with d accounts) { bag = b }) (bag_ext _ bag each)

  -- one message more or less
  pub entry_set : (x : Account) (ws : List Waiting) (g m : ℕ) (o : Option Waiting) → x ≡ account_at accounts f → waiting_at ws ≡ upd2 (waiting_at x.bag) g m o →
      central_with d (set accounts (f - 1) (record x { bag = ws })) ≡ record (central_with d accounts) { bag = at_key (central_with d accounts).bag g m f (option_map copy_of o) }
  unfolding upd upd2 at_key
  entry_set x ws g m o is table = bag_set x ws (at_key (central_with d accounts).bag g m f (option_map copy_of o)) is written_at
    where
      here : (h n : ℕ) → copy_at ws h n ≡ cond (is_key g m h n) (option_map copy_of o) (copy_at (account_at accounts f).bag h n)
      here h n = ap (λ t. option_map copy_of (t h n)) table ∙ by (is_key g m h n) ∙ ap (λ (a : Account). cond (is_key g m h n) (option_map copy_of o) (copy_at a.bag h n)) is
        where
          by : (b : Bool) → option_map copy_of (cond b o (waiting_at x.bag h n)) ≡ cond b (option_map copy_of o) (copy_at x.bag h n)
          by true = refl
          by false = refl

      written_at : (h n k : ℕ) → upd ((central_with d accounts).bag h n) f (copy_at ws h n) k ≡ at_key (central_with d accounts).bag g m f (option_map copy_of o) h n k
      written_at h n k = ⊎_elim
          (λ (y : eqb f k ≡ true). let e : f ≡ k = grind (arith, nat_tests) in rw (y, here h n) (by (is_key g m h n) (ap (λ j. copy_at (account_at accounts j).bag h n) e)))
          (λ (n' : eqb f k ≡ false). rw n' (neither (is_key g m h n)))
          (cases_Bool (eqb f k))
        where
          by : (b : Bool) → copy_at (account_at accounts f).bag h n ≡ copy_at (account_at accounts k).bag h n → cond b (option_map copy_of o) (copy_at (account_at accounts f).bag h n) ≡ cond (b && true) (option_map copy_of o) (copy_at (account_at accounts k).bag h n)
          by true e = refl
          by false e = e

          neither : (b : Bool) → copy_at (account_at accounts k).bag h n ≡ cond (b && false) (option_map copy_of o) (copy_at (account_at accounts k).bag h n)
          neither true = refl
          neither false = refl

  pub take_set : (x : Account) (ws : List Waiting) (g m : ℕ) → x ≡ account_at accounts f → waiting_at ws ≡ upd2 (waiting_at x.bag) g m None →
      central_with d (set accounts (f - 1) (record x { bag = ws })) ≡ record (central_with d accounts) { bag = at_key (central_with d accounts).bag g m f None }
  take_set x ws g m is table = entry_set x ws g m None is table

  -- messages are demoted
  pub demote_set : (x : Account) (ws : List Waiting) (events : List EventHandle) → x ≡ account_at accounts f → waiting_at ws ≡ with_listed_demoted events (waiting_at x.bag) →
      central_with d (set accounts (f - 1) (record x { bag = ws })) ≡ record (central_with d accounts) { bag = with_demoted (central_with d accounts).bag f events }
  unfolding upd with_demoted
  demote_set x ws events is table = bag_set x ws (with_demoted (central_with d accounts).bag f events) is demoted_at
    where
      here : (h n : ℕ) → copy_at ws h n ≡ cond (is_listed events h n) (option_map demoted_copy (copy_at (account_at accounts f).bag h n)) (copy_at (account_at accounts f).bag h n)
      here h n = ap (λ t. option_map copy_of (t h n)) table ∙ by (is_listed events h n) (waiting_at x.bag h n) ∙ ap (λ (a : Account). cond (is_listed events h n) (option_map demoted_copy (copy_at a.bag h n)) (copy_at a.bag h n)) is
        where
          given : (dl : Delivery) (content : Content) → copy_given (demoted_delivery dl) content ≡ demoted_copy (copy_given dl content)
          given Receive content = refl
          given (Demoted stamp) content = refl
          given (TimeStamp stamp) content = refl

          by : (b : Bool) (o : Option Waiting) → option_map copy_of (cond b (option_map demoted_waiting o) o) ≡ cond b (option_map demoted_copy (option_map copy_of o)) (option_map copy_of o)
          by true None = refl
          by true (Some w) = ap Some (given w.delivery w.content)
          by false o = refl

      demoted_at : (h n k : ℕ) → upd ((central_with d accounts).bag h n) f (copy_at ws h n) k ≡ with_demoted (central_with d accounts).bag f events h n k
      demoted_at h n k = ⊎_elim
          (λ (y : eqb f k ≡ true). let e : f ≡ k = grind (arith, nat_tests) in rw (y, here h n) (ap (λ j. cond (is_listed events h n) (option_map demoted_copy (copy_at (account_at accounts j).bag h n)) (copy_at (account_at accounts j).bag h n)) e))
          (λ (n' : eqb f k ≡ false). rw n' refl)
          (cases_Bool (eqb f k))

module _ (d : Directory) (accounts : List Account) (f : ℕ) (some : 0 < f) (within : f ≤ length accounts) where
  -- only what is due changes
  pub due_changed : (es : List EventHandle) → central_with d (set accounts (f - 1) (record (account_at accounts f) { due = es })) ≡ record (central_with d accounts) { due = λ g m. upd ((central_with d accounts).due g m) f (times_listed es g m) }
  due_changed es =
      let a : Account = record (account_at accounts f) { due = es } in
      λ i. record {
        directory = record d {
          next_federate = length-set accounts (f - 1) a i + 1;
          joined = field_same accounts f some within a (λ x. x.is_joined) refl i;
          name = field_same accounts f some within a (λ x. x.name) refl i;
        };
        row = field_same accounts f some within a (λ x. x.state) refl i;
        serial = field_same accounts f some within a (λ x. x.next_serial) refl i;
        bag = λ g m. field_same accounts f some within a (λ x. copy_at x.bag g m) refl i;
        discoveries = λ g. field_same accounts f some within a (λ x. offers_from g x.offers) refl i;
        sent = field_same accounts f some within a (λ x. sent_of x.sent) refl i;
        owed = λ g m. field_same accounts f some within a (λ x. times_listed x.owed g m) refl i;
        due = λ g m. field accounts f some within a (λ x. times_listed x.due g m) i;
        notices = field_same accounts f some within a (λ x. x.notices) refl i;
      }

  -- one request less
  pub due_set : (x : Account) (es : List EventHandle) (g m : ℕ) → x ≡ account_at accounts f → ((h n : ℕ) → times_listed es h n ≡ cond (is_key g m h n) (times_listed x.due h n - 1) (times_listed x.due h n)) →
      central_with d (set accounts (f - 1) (record x { due = es })) ≡ record (central_with d accounts) { due = at3 (central_with d accounts).due g m f ((central_with d accounts).due g m f - 1) }
  unfolding upd at3
  due_set x es g m is less =
      ap (λ (a : Account). central_with d (set accounts (f - 1) (record a { due = es }))) is
      ∙ due_changed es
      ∙ ap (λ (t : ℕ → ℕ → ℕ → ℕ). record (central_with d accounts) { due = t }) (fun_ext (λ h. fun_ext (λ n. fun_ext (λ k. at h n k))))
    where
      here : (h n : ℕ) → times_listed es h n ≡ cond (is_key g m h n) (times_listed (account_at accounts f).due h n - 1) (times_listed (account_at accounts f).due h n)
      here h n = less h n ∙ ap (λ (a : Account). cond (is_key g m h n) (times_listed a.due h n - 1) (times_listed a.due h n)) is

      at : (h n k : ℕ) → cond (eqb f k) (times_listed es h n) (times_listed (account_at accounts k).due h n) ≡ cond (is_key g m h n && eqb f k) (times_listed (account_at accounts f).due g m - 1) (times_listed (account_at accounts k).due h n)
      at h n k = by (eqb f k) (is_key g m h n) refl refl
        where
          by : (b c : Bool) → eqb f k ≡ b → is_key g m h n ≡ c → cond b (times_listed es h n) (times_listed (account_at accounts k).due h n) ≡ cond (c && b) (times_listed (account_at accounts f).due g m - 1) (times_listed (account_at accounts k).due h n)
          by false true y z = refl
          by false false y z = refl
          by true true y z = let p = key_parts g m h n z in here h n ∙ rw z (λ i. times_listed (account_at accounts f).due (sym p.0 i) (sym p.1 i) - 1)
          by true false y z = let e : f ≡ k = eqb-true f k y in here h n ∙ rw z (ap (λ j. times_listed (account_at accounts j).due h n) e)

pub due_kept : (accounts : List Account) (f : ℕ) → 0 < f → f ≤ length accounts → AreKept accounts → (x : Account) (es : List EventHandle) → x ≡ account_at accounts f → AreKept (set accounts (f - 1) (record x { due = es }))
due_kept accounts f some within kept x es is = subst (λ (a : Account). AreKept (set accounts (f - 1) (record a { due = es }))) (sym is)
    (kept_changed accounts f some within kept (record (account_at accounts f) { due = es }) refl refl (kept.apart f) (λ g m none. none))

-- what was not there is not there where one less is
pub none_stays : (t : ℕ → ℕ → Option Waiting) (g m h n : ℕ) → t h n ≡ None → upd2 t g m None h n ≡ None
unfolding upd2
none_stays t g m h n none = by (eqb g h && eqb m n)
  where
    by : (b : Bool) → cond b None (t h n) ≡ None
    by true = refl
    by false = none

pub none_demoted : (t : ℕ → ℕ → Option Waiting) (events : List EventHandle) (h n : ℕ) → t h n ≡ None → with_listed_demoted events t h n ≡ None
none_demoted t events h n none = by (is_listed events h n)
  where
    by : (b : Bool) → cond b (option_map demoted_waiting (t h n)) (t h n) ≡ None
    by true = ap (option_map demoted_waiting) none
    by false = none

-- one message is demoted
pub one_demoted : (bag : ℕ → ℕ → ℕ → Option Copy) (f : ℕ) (e : EventHandle) → with_demoted bag f (e ∷ []) ≡ at_key bag e.sender e.serial f (option_map demoted_copy (bag e.sender e.serial f))
unfolding with_demoted at_key
one_demoted bag f e = bag_ext _ _ at
  where
    at : (h n k : ℕ) → cond (eqb f k && ((eqb h e.sender && eqb n e.serial) || false)) (option_map demoted_copy (bag h n k)) (bag h n k) ≡ cond (is_key e.sender e.serial h n && eqb f k) (option_map demoted_copy (bag e.sender e.serial f)) (bag h n k)
    at h n k = by (eqb f k) (eqb h e.sender) (eqb n e.serial) (eqb e.sender h) (eqb e.serial n) (grind (arith, nat_tests)) (grind (arith, nat_tests)) (λ y. grind (arith, nat_tests)) (λ y. grind (arith, nat_tests)) (λ y. grind (arith, nat_tests))
      where
        by : (a b c x y : Bool) → x ≡ b → y ≡ c → (a ≡ true → f ≡ k) → (x ≡ true → e.sender ≡ h) → (y ≡ true → e.serial ≡ n) →
            cond (a && ((b && c) || false)) (option_map demoted_copy (bag h n k)) (bag h n k) ≡ cond ((x && y) && a) (option_map demoted_copy (bag e.sender e.serial f)) (bag h n k)
        by true true true true true u v i j l = λ t. option_map demoted_copy (bag (sym (j refl) t) (sym (l refl) t) (sym (i refl) t))
        by false b c true true u v i j l = refl
        by false b c true false u v i j l = refl
        by false b c false y u v i j l = refl
        by true false c false y u v i j l = refl
        by true true false true false u v i j l = refl
        by true false c true y u v i j l = absurd (true≢false u)
        by true true c false y u v i j l = absurd (false≢true u)
        by true true true true false u v i j l = absurd (false≢true v)
        by true true false true true u v i j l = absurd (true≢false v)

-- what arrives where order is not kept is demoted
pub arrived : (c : Central) (f : ℕ) (e : EventHandle) → not (is_disabled (c.row f).constrained) ≡ false → record c { bag = with_demoted c.bag f (e ∷ []) } ≡ after_arrival c e.sender f e.serial
arrived c f e loose = ap (λ (b : ℕ → ℕ → ℕ → Option Copy). record c { bag = b }) (one_demoted c.bag f e ∙ by (is_disabled (c.row f).constrained) loose)
  where
    by : (b : Bool) → not b ≡ false → at_key c.bag e.sender e.serial f (option_map demoted_copy (c.bag e.sender e.serial f)) ≡ cond b (at_key c.bag e.sender e.serial f (option_map demoted_copy (c.bag e.sender e.serial f))) c.bag
    by true l = refl
    by false l = absurd (true≢false l)

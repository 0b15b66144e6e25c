-- The accounts after a message is sent or retracted
use Rattle.std.proofs.Common.{eqb-true, ◌≡◌, ℕ, ◌+◌, ◌-◌, ◌<◌, ◌≤◌, cond, eqb, ◌&&◌, Bool, true, false, List, length, length-set, set, Some, None, Result, Ok, Err, OnOk, OnErr, refl, sym, ap, ◌∙◌, subst, arith}
use Rattle.std.proofs.Math.Path.{fun_ext}
use Rattle.hla_base.specs.declared.fault.Fault.{Fault}
use Rattle.hla_base.specs.Tables.{upd, upd2}
use Rattle.hla_base.proofs.Tables.{upd_each}
use Rattle.hla_retraction.specs.declared.sent.SentRow.{SentRow}
use Rattle.hla_retraction.specs.SentEvents.{SentEvent, no_event}
use Rattle.hla_retraction.specs.SentRows.{sent_of}
use Rattle.hla_machine.specs.Directory.{Directory}
use Rattle.hla_machine.specs.Central.{is_key}
use Rattle.hla_machine.proofs.Basics.Bags.{key_parts}
use Rattle.hla_accounts.specs.declared.account.Account.{Account}
use Rattle.hla_bags.specs.declared.bag.Waiting.{Waiting}
use Rattle.hla_bags.specs.Bags.{waiting_at, AreApart}
use Rattle.hla_accounts.specs.Accounts.{AreKept, account_at, central_with, copy_at, offers_from, times_listed}
use Rattle.hla_accounts.proofs.AfterSteps.OneAccount.{field, field_same, account_at-set, upd_itself}

pub on_both : {X E P Q R : Type 0} (r : Result X E) → (P → Q → R) → OnOk r P → OnOk r Q → OnOk r R
on_both (Ok x) f p q = f p q
on_both (Err e) f p q = tt

-- one entry of one row
upd2_row : {X : Type 0} (t : ℕ → ℕ → X) (f m : ℕ) (x : X) → upd t f (upd (t f) m x) ≡ upd2 t f m x
unfolding upd upd2
upd2_row t f m x = fun_ext (λ g. fun_ext (λ n. by g n (eqb f g) refl))
  where
    by : (g n : ℕ) (b : Bool) → eqb f g ≡ b → cond b (λ n. cond (eqb m n) x (t f n)) (t g) n ≡ cond (b && eqb m n) x (t g n)
    by g n true e = let same = eqb-true f g e in ap (λ h. cond (eqb m n) x (t h n)) same
    by g n false e = refl

module _ (accounts : List Account) (f : ℕ) (some : 0 < f) (within : f ≤ length accounts) where
  -- where the next serial does not fall, and what is from it on is of no message, all is kept
  pub kept_set : AreKept accounts → (a : Account) → (account_at accounts f).next_serial ≤ a.next_serial → AreApart a.bag → ((h m : ℕ) → (account_at accounts h).next_serial ≤ m → waiting_at a.bag h m ≡ None) →
      ((m : ℕ) → a.next_serial ≤ m → sent_of a.sent m ≡ no_event) → AreKept (set accounts (f - 1) a)
  kept_set kept a more apart unused unsent = record {
    few = rw length-set kept.few;
    apart = λ g. rw table (upd_each (account_at accounts) f a (λ g x. AreApart x.bag) apart (λ g ne. kept.apart g) g);
    unused = λ g h m le. let old = grown h m le in
        rw table (upd_each (account_at accounts) f a (λ g x. waiting_at x.bag h m ≡ None) (unused h m old) (λ j ne. kept.unused j h m old) g);
    unsent = λ g m le. subst (λ (t : ℕ → Account). (t g).next_serial ≤ m → sent_of (t g).sent m ≡ no_event) (sym table)
        (upd_each (account_at accounts) f a (λ g x. x.next_serial ≤ m → sent_of x.sent m ≡ no_event) (unsent m) (λ j ne. kept.unsent j m) g) le;
  }
    where
      table : account_at (set accounts (f - 1) a) ≡ upd (account_at accounts) f a
      table = account_at-set accounts f a some within

      grown : (h m : ℕ) → (account_at (set accounts (f - 1) a) h).next_serial ≤ m → (account_at accounts h).next_serial ≤ m
      grown h m le = upd_each (account_at accounts) f a (λ h x. x.next_serial ≤ m → (account_at accounts h).next_serial ≤ m) (λ l. omega (arith, more, l)) (λ j ne l. l) h
          (subst (λ (t : ℕ → Account). (t h).next_serial ≤ m) table le)

  -- one serial is taken
  pub serial_kept : AreKept accounts → (x : Account) → x ≡ account_at accounts f → AreKept (set accounts (f - 1) (record x { next_serial = x.next_serial + 1 }))
  serial_kept kept x is = subst (λ (x : Account). AreKept (set accounts (f - 1) (record x { next_serial = x.next_serial + 1 }))) (sym is)
      (kept_set kept (record (account_at accounts f) { next_serial = (account_at accounts f).next_serial + 1 }) (omega arith) (kept.apart f) (λ h m le. kept.unused f h m le)
      (λ m le. kept.unsent f m (omega (arith, le))))

  -- one message is put in
  pub put_kept : AreKept accounts → (x : Account) (ws : List Waiting) (g m : ℕ) (w : Waiting) → x ≡ account_at accounts f → AreApart ws → m < (account_at accounts g).next_serial → waiting_at ws ≡ upd2 (waiting_at x.bag) g m (Some w) →
      AreKept (set accounts (f - 1) (record x { bag = ws }))
  unfolding upd2
  put_kept kept x ws g m w is apart used table = subst (λ (x : Account). AreKept (set accounts (f - 1) (record x { bag = ws }))) (sym is)
      (kept_set kept (record (account_at accounts f) { bag = ws }) (omega arith) apart
      (λ h n le. ap (λ t. t h n) table ∙ by h n (is_key g m h n) refl le) (λ m le. kept.unsent f m le))
    where
      by : (h n : ℕ) (b : Bool) → is_key g m h n ≡ b → (account_at accounts h).next_serial ≤ n → cond b (Some w) (waiting_at x.bag h n) ≡ None
      by h n true e le =
          let p = key_parts g m h n e in
          let low : (account_at accounts g).next_serial ≤ n = subst (λ j. (account_at accounts j).next_serial ≤ n) (sym p.0) le in
          absurd (omega (arith, low, p.1, used))
      by h n false e le = ap (λ (a : Account). waiting_at a.bag h n) is ∙ kept.unused f h n le

  -- it is put in, or all is as it was
  pub puts_kept : AreKept accounts → (x : Account) (ws : List Waiting) (g m : ℕ) (w : Waiting) (r : Result (Unit {0}) Fault) → x ≡ account_at accounts f → AreApart ws → m < (account_at accounts g).next_serial →
      OnOk r (waiting_at ws ≡ upd2 (waiting_at x.bag) g m (Some w)) → OnErr r (ws ≡ x.bag) → AreKept (set accounts (f - 1) (record x { bag = ws }))
  puts_kept kept x ws g m w (Ok u) is apart used table same = put_kept kept x ws g m w is apart used table
  puts_kept kept x ws g m w (Err e) is apart used table same = subst (λ (x : Account). AreKept (set accounts (f - 1) (record x { bag = ws }))) (sym is)
      (kept_set kept (record (account_at accounts f) { bag = ws }) (omega arith) apart
      (λ h n le. ap (λ ws. waiting_at ws h n) same ∙ ap (λ (a : Account). waiting_at a.bag h n) is ∙ kept.unused f h n le) (λ m le. kept.unsent f m le))

  -- x is what was read, and a the account after a message that may be retracted was noted
  abbrev pub IsNoted : Account → Account → SentEvent → Type 0
  IsNoted x a e = (a ≡ record x { next_serial = x.next_serial + 1; sent = a.sent }) × (sent_of a.sent ≡ upd (sent_of x.sent) x.next_serial e)

  note_kept : AreKept accounts → (a : Account) (e : SentEvent) → IsNoted (account_at accounts f) a e → AreKept (set accounts (f - 1) a)
  note_kept kept a e noted = subst (λ (a : Account). AreKept (set accounts (f - 1) a)) (sym noted.0)
      (kept_set kept (record (account_at accounts f) { next_serial = (account_at accounts f).next_serial + 1; sent = a.sent }) (omega arith) (kept.apart f) (λ h m le. kept.unused f h m le)
      (λ m le. ap (λ t. t m) noted.1 ∙ past m le))
    where
      past : (m : ℕ) → (account_at accounts f).next_serial + 1 ≤ m → upd (sent_of (account_at accounts f).sent) (account_at accounts f).next_serial e m ≡ no_event
      past m le = upd_each (sent_of (account_at accounts f).sent) (account_at accounts f).next_serial e (λ j x. (account_at accounts f).next_serial + 1 ≤ j → x ≡ no_event)
          (λ l. absurd (omega (arith, l))) (λ j ne l. kept.unsent f j (omega (arith, l))) m le

  pub notes_kept : AreKept accounts → (x a : Account) (e : SentEvent) (r : Result (Unit {0}) Fault) → x ≡ account_at accounts f → OnOk r (IsNoted x a e) → OnErr r (a ≡ x) → AreKept (set accounts (f - 1) a)
  notes_kept kept x a e (Ok u) is noted same = note_kept kept a e (subst (λ (x : Account). IsNoted x a e) is noted)
  notes_kept kept x a e (Err f') is noted same = subst (λ (a : Account). AreKept (set accounts (f - 1) a)) (sym (same ∙ is))
      (kept_set kept (account_at accounts f) (omega arith) (kept.apart f) (λ h m le. kept.unused f h m le) (λ m le. kept.unsent f m le))

  -- one that may be retracted is
  pub retract_kept : AreKept accounts → (x : Account) (rows : List SentRow) (m : ℕ) → x ≡ account_at accounts f → (sent_of (account_at accounts f).sent m).retractable ≡ true →
      sent_of rows ≡ upd (sent_of x.sent) m (record (sent_of x.sent m) { retracted = true }) → AreKept (set accounts (f - 1) (record x { sent = rows }))
  retract_kept kept x rows m is may table = subst (λ (x : Account). AreKept (set accounts (f - 1) (record x { sent = rows }))) (sym is)
      (kept_set kept (record (account_at accounts f) { sent = rows }) (omega arith) (kept.apart f) (λ h m le. kept.unused f h m le)
      (λ n le. ap (λ t. t n) (table ∙ ap (λ (a : Account). upd (sent_of a.sent) m (record (sent_of a.sent m) { retracted = true })) is)
      ∙ upd_each (sent_of (account_at accounts f).sent) m (record (sent_of (account_at accounts f).sent m) { retracted = true }) (λ j y. (account_at accounts f).next_serial ≤ j → y ≡ no_event)
      (λ l. absurd (clash (sent_of (account_at accounts f).sent m) may (kept.unsent f m l))) (λ j ne. kept.unsent f j) n le))
    where
      clash : (e : SentEvent) → e.retractable ≡ true → e ≡ no_event → ⊥
      clash e t is = let p : e.retractable ≡ false = ap (λ (e : SentEvent). e.retractable) is in absurd (let q = sym p ∙ t in cc)

module _ (d : Directory) (accounts : List Account) (f : ℕ) (some : 0 < f) (within : f ≤ length accounts) where
  -- only the next serial and what was sent change
  sent_changed : (s : ℕ) (rows : List SentRow) → central_with d (set accounts (f - 1) (record (account_at accounts f) { next_serial = s; sent = rows }))
      ≡ record (central_with d accounts) { serial = upd (central_with d accounts).serial f s; sent = upd (central_with d accounts).sent f (sent_of rows) }
  sent_changed s rows =
      let a : Account = record (account_at accounts f) { next_serial = s; sent = rows } in
      λ i. record {
        directory = record d {
          next_federate = length-set accounts (f - 1) a i + 1;
          joined = field_same accounts f some within a (λ x. x.is_joined) refl i;
          name = field_same accounts f some within a (λ x. x.name) refl i;
        };
        row = field_same accounts f some within a (λ x. x.state) refl i;
        serial = field accounts f some within a (λ x. x.next_serial) i;
        bag = λ g m. field_same accounts f some within a (λ x. copy_at x.bag g m) refl i;
        discoveries = λ g. field_same accounts f some within a (λ x. offers_from g x.offers) refl i;
        sent = field accounts f some within a (λ x. sent_of x.sent) i;
        owed = λ g m. field_same accounts f some within a (λ x. times_listed x.owed g m) refl i;
        due = λ g m. field_same accounts f some within a (λ x. times_listed x.due g m) refl i;
        notices = field_same accounts f some within a (λ x. x.notices) refl i;
      }

  pub serial_set : (x : Account) → x ≡ account_at accounts f → central_with d (set accounts (f - 1) (record x { next_serial = x.next_serial + 1 }))
      ≡ record (central_with d accounts) { serial = upd (central_with d accounts).serial f ((central_with d accounts).serial f + 1) }
  serial_set x is = let c = central_with d accounts in
      ap (λ (x : Account). central_with d (set accounts (f - 1) (record x { next_serial = x.next_serial + 1 }))) is
      ∙ sent_changed ((account_at accounts f).next_serial + 1) (account_at accounts f).sent
      ∙ ap (λ (t : ℕ → ℕ → SentEvent). record c { serial = upd c.serial f (c.serial f + 1); sent = t }) (upd_itself c.sent f (sent_of (account_at accounts f).sent) refl)

  pub note_set : (x a : Account) (e : SentEvent) → x ≡ account_at accounts f → IsNoted accounts f some within x a e → central_with d (set accounts (f - 1) a)
      ≡ record (central_with d accounts) { serial = upd (central_with d accounts).serial f ((central_with d accounts).serial f + 1); sent = upd2 (central_with d accounts).sent f ((central_with d accounts).serial f) e }
  note_set x a e is noted = let c = central_with d accounts in
      ap (λ (a : Account). central_with d (set accounts (f - 1) a)) (noted.0 ∙ ap (λ (x : Account). record x { next_serial = x.next_serial + 1; sent = a.sent }) is)
      ∙ sent_changed ((account_at accounts f).next_serial + 1) a.sent
      ∙ ap (λ (t : ℕ → ℕ → SentEvent). record c { serial = upd c.serial f (c.serial f + 1); sent = t })
      (ap (upd c.sent f) (noted.1 ∙ ap (λ (x : Account). upd (sent_of x.sent) x.next_serial e) is) ∙ upd2_row c.sent f (c.serial f) e)

  pub retract_set : (x : Account) (rows : List SentRow) (m : ℕ) → x ≡ account_at accounts f → sent_of rows ≡ upd (sent_of x.sent) m (record (sent_of x.sent m) { retracted = true }) →
      central_with d (set accounts (f - 1) (record x { sent = rows })) ≡ record (central_with d accounts) { sent = upd2 (central_with d accounts).sent f m (record ((central_with d accounts).sent f m) { retracted = true }) }
  retract_set x rows m is table = let c = central_with d accounts in
      ap (λ (x : Account). central_with d (set accounts (f - 1) (record x { sent = rows }))) is
      ∙ sent_changed (account_at accounts f).next_serial rows
      ∙ ap (λ (t : ℕ → ℕ). record c { serial = t; sent = upd c.sent f (sent_of rows) }) (upd_itself c.serial f (account_at accounts f).next_serial refl)
      ∙ ap (λ (t : ℕ → ℕ → SentEvent). record c { sent = t })
      (ap (upd c.sent f) (table ∙ ap (λ (a : Account). upd (sent_of a.sent) m (record (sent_of a.sent m) { retracted = true })) is) ∙ upd2_row c.sent f m (record (c.sent f m) { retracted = true }))

-- The accounts after a federate joins or leaves
use Rattle.std.proofs.Common.{◌≡◌, ◌≢◌, ℕ, zero, suc, ◌+◌, ◌-◌, ◌<◌, ◌≤◌, cond, eqb, true, false, List, [], ◌∷◌, ◌++◌, length, length-set, set, get_or, map, None, option_map, refl, sym, ap, ◌∙◌, ⊎_elim, subst, arith}
use Rattle.std.proofs.lemmas.Bool.{cases_eq, cases_lt}
use Rattle.std.proofs.lemmas.Bool.Decides.{nat_tests}
use Rattle.std.proofs.lemmas.List.{length-append, get_or_append_left, get_or_past}
use Rattle.std.proofs.Math.Seq.{get_or-append_seam}
use Rattle.std.proofs.Math.Path.{fun_ext}
use Rattle.hla_base.specs.Limits.{max_joins}
use Rattle.hla_base.specs.Rows.{new_row}
use Rattle.hla_base.specs.Tables.{upd}
use Rattle.hla_base.proofs.Tables.{upd_each}
use Rattle.hla_retraction.specs.declared.sent.SentRow.{SentRow}
use Rattle.hla_retraction.specs.SentEvents.{no_event}
use Rattle.hla_retraction.specs.SentRows.{sent_of}
use Rattle.hla_machine.specs.Directory.{Directory, without_member}
use Rattle.hla_machine.specs.Machine.{after_join}
use Rattle.hla_accounts.specs.declared.account.Account.{Account}
use Rattle.hla_base.specs.declared.notice.Notice.{Notice}
use Rattle.hla_synchronization.specs.Points.{announcement_of}
use Rattle.hla_bags.specs.Bags.{waiting_at, AreApart}
use Rattle.hla_accounts.specs.Notices.{without_federate}
use Rattle.hla_accounts.specs.Accounts.{AreKept, account_at, no_account, central_with, copy_at, copy_of, offers_from, times_listed}
use Rattle.hla_accounts.proofs.AfterSteps.Accounts.{account_at-past, nothing_sent}
use Rattle.hla_bags.proofs.Bags.Contents.{waiting_at-nil}
use Rattle.hla_accounts.proofs.AfterSteps.Notices.{notices_added}
use Rattle.hla_accounts.proofs.AfterSteps.OneAccount.{fields, field, field_same, kept_changed, upd_itself, upd_read}

no_copy : (g m : ℕ) → copy_at [] g m ≡ None
no_copy g m = ap (λ t. option_map copy_of (t g m)) waiting_at-nil

never_listed : (g m : ℕ) → times_listed [] g m ≡ 0
unfolding times_listed
never_listed g m = refl

-- ---- leaving
-- an account of one that has left
abbrev pub left : Account → Account
left x = record x { is_joined = false; state = new_row; bag = []; offers = []; owed = []; due = []; notices = [] }

module _ (d : Directory) (accounts : List Account) (f : ℕ) (some : 0 < f) (within : f ≤ length accounts) where
  left_changed : central_with (without_member d f) (set accounts (f - 1) (left (account_at accounts f))) ≡ without_federate (central_with d accounts) f
  left_changed =
      let a : Account = left (account_at accounts f) in
      λ i. record {
        directory = record (without_member d f) {
          next_federate = length-set accounts (f - 1) a i + 1;
          joined = field accounts f some within a (λ x. x.is_joined) i;
          name = field_same accounts f some within a (λ x. x.name) refl i;
        };
        row = field accounts f some within a (λ x. x.state) i;
        serial = field_same accounts f some within a (λ x. x.next_serial) refl i;
        bag = λ g m. (field accounts f some within a (λ x. copy_at x.bag g m) ∙ ap (upd (λ h. copy_at (account_at accounts h).bag g m) f) (no_copy g m)) i;
        discoveries = λ g. field accounts f some within a (λ x. offers_from g x.offers) i;
        sent = field_same accounts f some within a (λ x. sent_of x.sent) refl i;
        owed = λ g m. (field accounts f some within a (λ x. times_listed x.owed g m) ∙ ap (upd (λ h. times_listed (account_at accounts h).owed g m) f) (never_listed g m)) i;
        due = λ g m. (field accounts f some within a (λ x. times_listed x.due g m) ∙ ap (upd (λ h. times_listed (account_at accounts h).due g m) f) (never_listed g m)) i;
        notices = field accounts f some within a (λ x. x.notices) i;
      }

  pub left_set : (x a : Account) → x ≡ account_at accounts f → a ≡ left x → central_with (without_member d f) (set accounts (f - 1) a) ≡ without_federate (central_with d accounts) f
  left_set x a is gone = ap (λ (a : Account). central_with (without_member d f) (set accounts (f - 1) a)) (gone ∙ ap left is) ∙ left_changed

pub left_kept : (accounts : List Account) (f : ℕ) → 0 < f → f ≤ length accounts → AreKept accounts → (x a : Account) → x ≡ account_at accounts f → a ≡ left x → AreKept (set accounts (f - 1) a)
left_kept accounts f some within kept x a is gone = subst (λ (a : Account). AreKept (set accounts (f - 1) a)) (sym (gone ∙ ap left is))
    (kept_changed accounts f some within kept (left (account_at accounts f)) refl refl tt (λ g m none. ap (λ t. t g m) waiting_at-nil))

-- ---- joining
pub account_at-push : (accounts : List Account) (a : Account) → account_at (accounts ++ a ∷ []) ≡ upd (account_at accounts) (length accounts + 1) a
unfolding upd
account_at-push accounts a = fun_ext (λ g. at g)
  where
    at : (g : ℕ) → account_at (accounts ++ a ∷ []) g ≡ cond (eqb (length accounts + 1) g) a (account_at accounts g)
    at zero = let n : eqb (length accounts + 1) 0 ≡ false = grind (arith, nat_tests) in rw n refl
    at (suc k) = ⊎_elim
        (λ (e : k ≡ length accounts). let y : eqb (length accounts + 1) (suc k) ≡ true = grind (arith, nat_tests) in rw (y, e) (get_or-append_seam accounts a [] no_account))
        (λ (ne : k ≢ length accounts). let n : eqb (length accounts + 1) (suc k) ≡ false = grind (arith, nat_tests) in rw n (beside k ne))
        (cases_eq k (length accounts))
      where
        beside : (k : ℕ) → k ≢ length accounts → get_or (accounts ++ a ∷ []) k no_account ≡ get_or accounts k no_account
        beside k ne = ⊎_elim
            (λ (l : k < length accounts). get_or_append_left accounts (a ∷ []) no_account k l)
            (λ (past : length accounts ≤ k).
            let size = length-append accounts (a ∷ []) in
            let far : length (accounts ++ a ∷ []) ≤ k = omega (arith, size, past, ne) in
            get_or_past (accounts ++ a ∷ []) k no_account far ∙ sym (get_or_past accounts k no_account past))
            (cases_lt k (length accounts))

-- the account of a newcomer
abbrev pub newcomer : List ℕ → List SentRow → List Notice → Account
newcomer name sent notices = record { name = name; is_joined = true; state = new_row; next_serial = 1; sent = sent; bag = []; offers = []; owed = []; due = []; notices = notices }

module _ (accounts : List Account) (a : Account) where
  pushed : {Y : Type 0} (p : Account → Y) → fields p (accounts ++ a ∷ []) ≡ upd (fields p accounts) (length accounts + 1) (p a)
  pushed p = (λ i. λ g. p (account_at-push accounts a i g)) ∙ upd_read p (account_at accounts) (length accounts + 1) a

  -- what nobody has, the newcomer has not either
  pushed_same : {Y : Type 0} (p : Account → Y) → p a ≡ p no_account → fields p (accounts ++ a ∷ []) ≡ fields p accounts
  pushed_same p same = pushed p ∙ upd_itself (fields p accounts) (length accounts + 1) (p a) (same ∙ ap p (sym (account_at-past accounts (length accounts + 1) (omega arith))))

-- who joins has sent nothing
sends_nothing : (sent : List SentRow) → sent_of sent ≡ (λ _. no_event) → sent_of sent ≡ sent_of []
sends_nothing sent unsent = unsent ∙ fun_ext (λ m. sym (nothing_sent m))

-- what a newcomer is to be told
told_newcomer : (d : Directory) (accounts : List Account) (a : Account) → a.notices ≡ map announcement_of d.points → fields (λ x. x.notices) (accounts ++ a ∷ []) ≡ (λ g. (account_at accounts g).notices ++ cond (eqb (length accounts + 1) g) (map announcement_of d.points) [])
told_newcomer d accounts a told =
    let n = length accounts + 1 in
    let none : [] ≡ (account_at accounts n).notices = ap (λ (x : Account). x.notices) (sym (account_at-past accounts n (omega arith))) in
    pushed accounts a (λ x. x.notices) ∙ ap (upd (λ g. (account_at accounts g).notices) n) (told ∙ ap (λ (ns : List Notice). ns ++ map announcement_of d.points) none)
    ∙ notices_added (λ g. (account_at accounts g).notices) n (map announcement_of d.points)

pub joined_set : (d : Directory) (accounts : List Account) (name : List ℕ) (sent : List SentRow) (notices : List Notice) → sent_of sent ≡ (λ _. no_event) → notices ≡ map announcement_of d.points → central_with d (accounts ++ newcomer name sent notices ∷ []) ≡ after_join (central_with d accounts) name
joined_set d accounts name sent notices unsent told =
    let a : Account = newcomer name sent notices in
    λ i. record {
      directory = record d {
        next_federate = length-append accounts (a ∷ []) i + 1;
        joined = pushed accounts a (λ x. x.is_joined) i;
        name = pushed accounts a (λ x. x.name) i;
      };
      row = pushed accounts a (λ x. x.state) i;
      serial = pushed_same accounts a (λ x. x.next_serial) refl i;
      bag = λ g m. pushed_same accounts a (λ x. copy_at x.bag g m) refl i;
      discoveries = λ g. pushed_same accounts a (λ x. offers_from g x.offers) refl i;
      sent = pushed_same accounts a (λ x. sent_of x.sent) (sends_nothing sent unsent) i;
      owed = λ g m. pushed_same accounts a (λ x. times_listed x.owed g m) refl i;
      due = λ g m. pushed_same accounts a (λ x. times_listed x.due g m) refl i;
      notices = told_newcomer d accounts a told i;
    }

pub joined_kept : (accounts : List Account) (name : List ℕ) (sent : List SentRow) (notices : List Notice) → sent_of sent ≡ (λ _. no_event) → length accounts < max_joins → AreKept accounts → AreKept (accounts ++ newcomer name sent notices ∷ [])
joined_kept accounts name sent notices unsent room kept = record {
  few = let size = length-append accounts (a ∷ []) in omega (arith, size, room);
  apart = λ g. rw table (upd_each (account_at accounts) n a (λ g x. AreApart x.bag) tt (λ g ne. kept.apart g) g);
  unused = λ g h m le. rw table (upd_each (account_at accounts) n a (λ g x. waiting_at x.bag h m ≡ None)
      (ap (λ t. t h m) waiting_at-nil) (λ j ne. kept.unused j h m (subst (λ t. t h ≤ m) serials le)) g);
  unsent = λ g m le. ap (λ t. t m) (λ i. sents i g) ∙ kept.unsent g m (subst (λ t. t g ≤ m) serials le);
}
  where
    a : Account
    a = newcomer name sent notices

    n : ℕ
    n = length accounts + 1

    table : account_at (accounts ++ a ∷ []) ≡ upd (account_at accounts) n a
    table = account_at-push accounts a

    serials : fields (λ x. x.next_serial) (accounts ++ a ∷ []) ≡ fields (λ x. x.next_serial) accounts
    serials = pushed_same accounts a (λ x. x.next_serial) refl

    sents : fields (λ x. sent_of x.sent) (accounts ++ a ∷ []) ≡ fields (λ x. sent_of x.sent) accounts
    sents = pushed_same accounts a (λ x. sent_of x.sent) (sends_nothing sent unsent)

-- a is the account that was made for the newcomer
pub joins_set : (d : Directory) (accounts : List Account) (name : List ℕ) (a : Account) (notices : List Notice) → a ≡ newcomer name a.sent notices → sent_of a.sent ≡ (λ _. no_event) → notices ≡ map announcement_of d.points → central_with d (accounts ++ a ∷ []) ≡ after_join (central_with d accounts) name
joins_set d accounts name a notices is unsent told = ap (λ (x : Account). central_with d (accounts ++ x ∷ [])) is ∙ joined_set d accounts name a.sent notices unsent told

pub joins_kept : (accounts : List Account) (name : List ℕ) (a : Account) (notices : List Notice) → a ≡ newcomer name a.sent notices → sent_of a.sent ≡ (λ _. no_event) → length accounts < max_joins → AreKept accounts → AreKept (accounts ++ a ∷ [])
joins_kept accounts name a notices is unsent room kept = subst (λ (x : Account). AreKept (accounts ++ x ∷ [])) (sym is) (joined_kept accounts name a.sent notices unsent room kept)

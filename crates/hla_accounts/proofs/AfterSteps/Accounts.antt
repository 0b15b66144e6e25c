-- Accounts by number
use Rattle.std.proofs.Common.{◌≡◌, ℕ, zero, suc, ◌<◌, List, [], length, Some, None, option_map, refl, sym, ap, ◌∙◌, arith}
use Rattle.std.proofs.lemmas.List.{get_or_past}
use Rattle.hla_retraction.specs.SentEvents.{no_event}
use Rattle.hla_retraction.specs.SentRows.{sent_of}
use Rattle.hla_accounts.specs.declared.account.Account.{Account}
use Rattle.hla_machine.specs.Central.{Copy}
use Rattle.hla_accounts.specs.Accounts.{account_at, no_account, copy_at, copy_of, AreKept}
use Rattle.hla_bags.proofs.Bags.Contents.{waiting_at-nil}

pub nothing_sent : (m : ℕ) → sent_of [] m ≡ no_event
unfolding sent_of
nothing_sent m = refl

pub account_at-nil : (f : ℕ) → account_at [] f ≡ no_account
account_at-nil zero = refl
account_at-nil (suc k) = refl

-- nobody has the number
pub account_at-past : (accounts : List Account) (f : ℕ) → length accounts < f → account_at accounts f ≡ no_account
account_at-past accounts zero past = refl
account_at-past accounts (suc k) past = get_or_past accounts k no_account (omega arith)

pub none_kept : AreKept []
none_kept = record {
  few = omega arith;
  apart = λ f. rw account_at-nil tt;
  unused = λ f g m le. rw account_at-nil (ap (λ t. t g m) waiting_at-nil);
  unsent = λ g m le. rw account_at-nil (nothing_sent m);
}

-- nothing waits for who never joined
pub nothing_waits : (a : Account) (g m : ℕ) (k : Copy) → a ≡ no_account → copy_at a.bag g m ≡ Some k → ⊥
nothing_waits a g m k nobody is =
    let none : copy_at a.bag g m ≡ None = ap (λ (a : Account). copy_at a.bag g m) nobody ∙ ap (λ t. option_map copy_of (t g m)) waiting_at-nil in
    absurd (let e : None ≡ Some k = sym none ∙ is in cc)

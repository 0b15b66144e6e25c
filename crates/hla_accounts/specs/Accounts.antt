-- The central machine's state that accounts stand for
use Rattle.std.specs.Prelude.{ℕ, zero, suc, ◌+◌, ◌≡◌, ◌≤◌, eqb, ◌&&◌, Bool, false, Option, Some, None, option_map, List, [], ◌∷◌, length, slice_index_or}
use Rattle.std.specs.List.{filter_map}
use Rattle.hla_base.specs.Limits.{max_joins}
use Rattle.hla_base.specs.declared.number.EventHandle.{EventHandle}
use Rattle.hla_base.specs.declared.content.Content.{Content}
use Rattle.hla_base.specs.declared.content.Discovery.{Discovery}
use Rattle.hla_base.specs.Rows.{new_row}
use Rattle.hla_base.specs.Tables.{one_if, when}
use Rattle.hla_callbacks.specs.declared.callback.Delivery.{Delivery}
use Rattle.hla_callbacks.specs.declared.callback.Delivery.TheVariants.{Receive, Demoted, TimeStamp}
use Rattle.hla_retraction.specs.SentEvents.{no_event}
use Rattle.hla_retraction.specs.SentRows.{sent_of}
use Rattle.hla_machine.specs.Directory.{Directory}
use Rattle.hla_machine.specs.Central as machine
use Rattle.hla_machine.specs.Central.{Central, Copy, Ro, Tso, is_key}
use Rattle.hla_accounts.specs.declared.account.Account.{Account}
use Rattle.hla_accounts.specs.declared.offers.Offer.{Offer}
use Rattle.hla_bags.specs.declared.bag.Waiting.{Waiting}
use Rattle.hla_bags.specs.Bags.{waiting_at, AreApart}

-- ---- the copies in a bag
-- the copy that is given so
abbrev pub copy_given : Delivery → Content → Copy
copy_given Receive x = record { order = Ro; stamp = 0; content = x }
copy_given (Demoted stamp) x = record { order = machine.Demoted; stamp = stamp; content = x }
copy_given (TimeStamp stamp) x = record { order = Tso; stamp = stamp; content = x }

abbrev pub copy_of : Waiting → Copy
copy_of w = copy_given w.delivery w.content

abbrev pub copy_at : List Waiting → ℕ → ℕ → Option Copy
copy_at ws g m = option_map copy_of (waiting_at ws g m)

-- ---- accounts by number, counted from 1
abbrev pub no_account : Account
no_account = record { name = []; is_joined = false; state = new_row; next_serial = 1; sent = []; bag = []; offers = []; owed = []; due = []; notices = [] }

abbrev pub account_at : List Account → ℕ → Account
account_at accounts zero = no_account
account_at accounts (suc k) = slice_index_or accounts k no_account

-- the discoveries of one federate's objects
abbrev pub offers_from : ℕ → List Offer → List Discovery
offers_from g offers = filter_map (λ (o : Offer). when (eqb o.from g) (Some o.discovery)) offers

-- is it the event of this sender with this serial
abbrev pub is_handle_of : ℕ → ℕ → EventHandle → Bool
is_handle_of g m e = eqb e.sender g && eqb e.serial m

-- how often an event is in a list
unfoldable pub times_listed : List EventHandle → ℕ → ℕ → ℕ
times_listed [] g m = 0
times_listed (e ∷ es) g m = one_if (is_key e.sender e.serial g m) + times_listed es g m

-- ---- the state: the accounts, and a directory for what they do not say
abbrev pub central_with : Directory → List Account → Central
central_with d accounts = record {
  directory = record d {
    next_federate = length accounts + 1;
    joined = λ f. (account_at accounts f).is_joined;
    name = λ f. (account_at accounts f).name;
  };
  row = λ f. (account_at accounts f).state;
  serial = λ f. (account_at accounts f).next_serial;
  bag = λ g m f. copy_at (account_at accounts f).bag g m;
  discoveries = λ g f. offers_from g (account_at accounts f).offers;
  sent = λ g. sent_of (account_at accounts g).sent;
  owed = λ g m f. times_listed (account_at accounts f).owed g m;
  due = λ g m f. times_listed (account_at accounts f).due g m;
  notices = λ f. (account_at accounts f).notices;
}

-- ---- what accounts keep
pub record AreKept (accounts : List Account) : Type 0 where
  pub few : length accounts ≤ max_joins
  -- no two messages that wait for one federate have one sender and one serial
  pub apart : (f : ℕ) → AreApart (account_at accounts f).bag
  -- a serial that is not used is of no message
  pub unused : (f g m : ℕ) → (account_at accounts g).next_serial ≤ m → waiting_at (account_at accounts f).bag g m ≡ None
  pub unsent : (g m : ℕ) → (account_at accounts g).next_serial ≤ m → sent_of (account_at accounts g).sent m ≡ no_event

-- The central machine's state: one table of rows, one bag of copies, and what bounds follow from them
use Rattle.std.specs.Prelude.{ℕ, ◌+◌, ◌≡◌, ◌≢◌, ◌≤◌, ◌<◌, ◌⊎◌, cond, eqb, ◌&&◌, Bool, true, false, Option, Some, None, List, []}
use Rattle.hla_base.specs.Limits.{forever}
use Rattle.hla_base.specs.declared.content.Content.{Content}
use Rattle.hla_base.specs.declared.content.Discovery.{Discovery}
use Rattle.hla_base.specs.declared.notice.Notice.{Notice}
use Rattle.hla_base.specs.declared.row.AdvanceKind.{AdvanceKind}
use Rattle.hla_base.specs.declared.row.AdvanceRequest.{AdvanceRequest}
use Rattle.hla_base.specs.declared.row.TimeRow.{TimeRow}
use Rattle.hla_base.specs.Tables.{is_other, greatest, or_else, when}
use Rattle.hla_base.specs.Rows.{is_enabled, is_regulator, next_request, width, new_row, reach, bar_of}
use Rattle.hla_catalogue.specs.CatalogueValue.{CatalogueValue}
use Rattle.hla_retraction.specs.SentEvents.{SentEvent, no_event}
use Rattle.hla_machine.specs.Directory.{Directory, new_directory}

-- how a copy goes to its receiver; a demoted one was sent in time-stamp order and is given in receive order
pub data CopyOrder : Type 0 where
  Ro : CopyOrder
  Tso : CopyOrder
  Demoted : CopyOrder

-- a message on its way to one receiver
pub record Copy : Type 0 where
  pub order : CopyOrder
  pub stamp : ℕ  -- 0 for one that was sent in receive order
  pub content : Content

pub record Central : Type 0 where
  pub directory : Directory
  pub row : ℕ → TimeRow
  pub serial : ℕ → ℕ  -- of each federate's next message
  pub bag : ℕ → ℕ → ℕ → Option Copy  -- what is not picked up, by sender, serial and receiver
  pub discoveries : ℕ → ℕ → List Discovery  -- what is not picked up, by sender and receiver, the first first
  pub sent : ℕ → ℕ → SentEvent
  pub owed : ℕ → ℕ → ℕ → ℕ  -- how many retractions of an event are under way to a receiver
  pub due : ℕ → ℕ → ℕ → ℕ  -- how many requests to take an event back wait for a receiver
  pub notices : ℕ → List Notice  -- what each federate is to be told of synchronization points, the first first

-- an execution that was just created
abbrev pub new_central : CatalogueValue → Central
new_central catalogue = record {
  directory = new_directory catalogue;
  row = λ _. new_row;
  serial = λ _. 1;
  bag = λ _ _ _. None;
  discoveries = λ _ _. [];
  sent = λ _ _. no_event;
  owed = λ _ _ _. 0;
  due = λ _ _ _. 0;
  notices = λ _. [];
}

-- ---- bounds, each as 'x is at most it'
-- the stamp of a copy, if it goes in time-stamp order
abbrev pub BelowTso : ℕ → Copy → Type 0
BelowTso x k = k.order ≡ Tso → x ≤ k.stamp

-- the least stamp of the unretracted copies for f that go in time-stamp order
abbrev pub BelowAllTso : Central → ℕ → ℕ → Type 0
BelowAllTso c f x = (g m : ℕ) (k : Copy) → c.bag g m f ≡ Some k → (c.sent g m).retracted ≡ false → BelowTso x k

-- the wake of a next-event request: its first pick, or else the lesser of the asked time and the least stamp
abbrev pub BelowWake : (ℕ → Type 0) → AdvanceRequest → Option ℕ → ℕ → Type 0
BelowWake below q (Some p) x = x ≤ p
BelowWake below q None x = (x ≤ q.asked) × below x

-- what may be sent after a next-event request: from its wake on, by the width
abbrev pub BelowRequest : (ℕ → Type 0) → TimeRow → Option AdvanceRequest → ℕ → Type 0
BelowRequest below r None v = ⊥
BelowRequest below r (Some q) v = (x : ℕ) × (v ≤ x + width r.lookahead q.kind) × BelowWake below q r.first_pick x

-- what a regulator may still send: its floor, or in a next-event request what it may send after its wake
abbrev pub BelowOut : (ℕ → Type 0) → TimeRow → ℕ → Type 0
BelowOut below r v = (v ≤ r.floor) ⊎ BelowRequest below r (next_request r) v

-- the lower bound on time stamp (LBTS) of f: the least of what the other regulators may still send
abbrev pub BelowBound : Central → ℕ → ℕ → Type 0
BelowBound c f v = (v ≤ forever) × ((g : ℕ) → c.directory.joined g ≡ true → g ≢ f → is_regulator (c.row g) ≡ true → BelowOut (BelowAllTso c g) (c.row g) v)

-- nothing can come to f any more, and nothing waits for it, before the reach of t
abbrev pub Reached : Central → ℕ → AdvanceKind → ℕ → Type 0
Reached c f kind t = BelowBound c f (reach kind t) × BelowAllTso c f (reach kind t)

-- ---- the entry of a newcomer among the regulators
-- at or above t + lookahead and every constrained federate's bar
unfoldable pub low_entry : Directory → (ℕ → TimeRow) → ℕ → ℕ
low_entry d row earliest = greatest d.next_federate earliest (λ g. bar_of (row g))

-- e is at most the wake of another regulating constrained federate in a next-event request
abbrev pub BelowSomeWake : Central → ℕ → ℕ → Type 0
BelowSomeWake c f e =
    (g : ℕ) × (q : AdvanceRequest) × (c.directory.joined g ≡ true) × (g ≢ f) × (is_enabled (c.row g).regulating ≡ true) × (next_request (c.row g) ≡ Some q)
    × BelowWake (BelowAllTso c g) q (c.row g).first_pick e

-- ---- keys
abbrev pub is_key : ℕ → ℕ → ℕ → ℕ → Bool
is_key g m h n = eqb g h && eqb m n

-- of events with one stamp, g's with serial m is not behind h's with serial n
abbrev pub KeyLe : ℕ → ℕ → ℕ → ℕ → Type 0
KeyLe g m h n = (g < h) ⊎ ((g ≡ h) × (m ≤ n))

-- the bag with another copy at one place
unfoldable pub at_key : (ℕ → ℕ → ℕ → Option Copy) → ℕ → ℕ → ℕ → Option Copy → ℕ → ℕ → ℕ → Option Copy
at_key bag g m f o = λ h n k. cond (is_key g m h n && eqb f k) o (bag h n k)

-- a table of counts with another at one place
unfoldable pub at3 : (ℕ → ℕ → ℕ → ℕ) → ℕ → ℕ → ℕ → ℕ → ℕ → ℕ → ℕ → ℕ
at3 t g m f x = λ h n k. cond (is_key g m h n && eqb f k) x (t h n k)

-- the bag with a copy for each federate to which the message says something
unfoldable pub with_copies : (ℕ → Bool) → (ℕ → ℕ → ℕ → Option Copy) → ℕ → ℕ → (ℕ → Option Copy) → ℕ → ℕ → ℕ → Option Copy
with_copies joined bag g m copy = λ h n f. or_else (when (is_key g m h n && is_other joined g f) (copy f)) (bag h n f)

-- ---- demotion
abbrev pub demoted_order : CopyOrder → CopyOrder
demoted_order Ro = Ro
demoted_order Tso = Demoted
demoted_order Demoted = Demoted

abbrev pub demoted_copy : Copy → Copy
demoted_copy k = record k { order = demoted_order k.order }

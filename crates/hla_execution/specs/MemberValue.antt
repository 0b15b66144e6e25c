-- What contracts see of the members of a federation, and the tables that these stand for
use Rattle.std.specs.Prelude.{ℕ, ◌+◌, Bool, false, List, [], zero, suc, length, slice_index_or}
use Rattle.hla_null_message.specs.declared.message.Message.{Message}
use Rattle.hla_retraction.specs.declared.sent.SentRow.{SentRow}
use Rattle.hla_retraction.specs.SentEvents.{SentEvent}
use Rattle.hla_retraction.specs.SentRows.{sent_of}
use Rattle.hla_component_rules.specs.LocalValue.{LocalValue, new_local}

pub record MemberValue : Type 0 where
  pub name : List ℕ
  pub joined : Bool
  pub next_serial : ℕ
  pub local : LocalValue
  pub sent : List SentRow  -- the messages that it may retract
  pub incoming : List (List Message)  -- on the wires to it, by sender, counted from 1

abbrev pub no_member : MemberValue
no_member = record { name = []; joined = false; next_serial = 1; local = new_local []; sent = []; incoming = [] }

-- the item with a number, counted from 1
abbrev pub item : {X : Type 0} → X → List X → ℕ → X
item d xs zero = d
item d xs (suc k) = slice_index_or xs k d

-- all of them, as tables by number
pub record MemberTables : Type 0 where
  pub next_federate : ℕ
  pub joined : ℕ → Bool
  pub name : ℕ → List ℕ
  pub serial : ℕ → ℕ
  pub local : ℕ → LocalValue
  pub wire : ℕ → ℕ → List Message  -- from, to
  pub sent : ℕ → ℕ → SentEvent  -- by sender and serial

abbrev pub members_of : List MemberValue → MemberTables
members_of members = record {
  next_federate = length members + 1;
  joined = λ f. (item no_member members f).joined;
  name = λ f. (item no_member members f).name;
  serial = λ f. (item no_member members f).next_serial;
  local = λ f. (item no_member members f).local;
  wire = λ g f. item [] (item no_member members f).incoming g;
  sent = λ f. sent_of (item no_member members f).sent;
}

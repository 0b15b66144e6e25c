-- What a federate sends to each other, and what it is to discover, as lists by federate
use Rattle.std.specs.Prelude.{ℕ, zero, suc, ◌≡◌, not, ◌&&◌, Bool, true, false, Option, Some, None, is_some, option_map, List, slice_index_or}
use Rattle.hla_base.specs.declared.content.Content.{Content}
use Rattle.hla_base.specs.declared.row.TimeRow.{TimeRow}
use Rattle.hla_base.specs.Rows.{is_enabled}
use Rattle.hla_base.specs.Tables.{is_other, when}
use Rattle.hla_callbacks.specs.declared.callback.Delivery.{Delivery}
use Rattle.hla_callbacks.specs.declared.callback.Delivery.TheVariants.{Receive, TimeStamp}
use Rattle.hla_catalogue.specs.declared.declared.Order.{Order}
use Rattle.hla_catalogue.specs.declared.declared.Order.TheVariants.{Timestamp}
use Rattle.hla_retraction.specs.SentEvents.{SentEvent, no_event}
use Rattle.hla_machine.specs.Directory.{Outgoing, content_for, is_of_order}
use Rattle.hla_machine.specs.Sends.{is_deletion}
use Rattle.hla_machine.specs.Central.{Central, Copy}
use Rattle.hla_accounts.specs.Accounts.{copy_given}

-- ---- lists by federate, whose numbers are counted from 1
abbrev pub item_for : {X : Type 0} → List (Option X) → ℕ → Option X
item_for items zero = None
item_for items (suc k) = slice_index_or items k None

-- ---- the order of a message
-- its order says so, it has a stamp, and its sender regulates
abbrev pub is_sent_in_order : TimeRow → Order → Option ℕ → Bool
is_sent_in_order r order stamp = is_of_order Timestamp order && is_some stamp && is_enabled r.regulating

-- the stamp of a message in time-stamp order
abbrev pub stamp_in_order : TimeRow → Order → Option ℕ → Option ℕ
stamp_in_order r order stamp = when (is_sent_in_order r order stamp) stamp

abbrev pub sent_delivery : Option ℕ → Delivery
sent_delivery None = Receive
sent_delivery (Some stamp) = TimeStamp stamp

-- the copies of a message that says this to each
abbrev pub copy_sent : Delivery → List (Option Content) → ℕ → Option Copy
copy_sent delivery contents f = option_map (copy_given delivery) (item_for contents f)

-- the stamp of a message that may be retracted: no deletion may be
abbrev pub noted_stamp : Bool → Option ℕ → Option ℕ
noted_stamp deletes stamp = when (not deletes) stamp

-- what is kept of a message: nothing of one that may not be retracted
abbrev pub kept_event : Option ℕ → (ℕ → Bool) → SentEvent
kept_event None receivers = no_event
kept_event (Some stamp) receivers = record { stamp = stamp; retractable = true; retracted = false; receivers = receivers }

-- the contents are those of the message for each other joined federate
pub record IsCutTo (c : Central) (sender : ℕ) (out : Outgoing) (order : Order) (deletes : Bool) (contents : List (Option Content)) : Type 0 where
  pub same_order : out.order ≡ order
  pub same_deletion : is_deletion out.body ≡ deletes
  pub same_contents : (f : ℕ) → is_other c.directory.joined sender f ≡ true → item_for contents f ≡ content_for c.directory out.body f

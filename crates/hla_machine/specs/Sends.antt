-- Sending and retracting messages (HLA 1.3, object management and time management)
use Rattle.std.specs.Prelude.{ℕ, ◌+◌, cond, not, ◌&&◌, Bool, true, false, Option, Some, None, is_some, option_map, unwrap_or, List, [], ◌∷◌}
use Rattle.hla_base.specs.declared.number.EventHandle.{EventHandle}
use Rattle.hla_base.specs.declared.row.TimeRow.{TimeRow}
use Rattle.hla_base.specs.Tables.{upd, upd2, is_other, or_else, when, one_if}
use Rattle.hla_base.specs.Rows.{is_enabled}
use Rattle.hla_catalogue.specs.declared.declared.Order.TheVariants.{Timestamp}
use Rattle.hla_retraction.specs.SentEvents.{SentEvent, no_event}
use Rattle.hla_machine.specs.Directory.{Directory, Outgoing, Body, AnInteraction, AnUpdate, ADeletion, content_for, is_receiver, is_of_order}
use Rattle.hla_machine.specs.Central.{Central, Copy, Ro, Tso, with_copies, is_key}

-- a message goes in time-stamp order if its order says so, it has a stamp, and its sender regulates
abbrev pub is_ordered : TimeRow → Option ℕ → Outgoing → Bool
is_ordered r stamp out = is_of_order Timestamp out.order && is_some stamp && is_enabled r.regulating

-- the stamp that is kept of a message: none in receive order
abbrev pub kept_stamp : TimeRow → Option ℕ → Outgoing → ℕ
kept_stamp r stamp out = cond (is_ordered r stamp out) (unwrap_or stamp 0) 0

abbrev pub is_deletion : Body → Bool
is_deletion (AnInteraction class values) = false
is_deletion (AnUpdate object values) = false
is_deletion (ADeletion object) = true

abbrev pub copy_for : Directory → TimeRow → Option ℕ → Outgoing → ℕ → Option Copy
copy_for d r stamp out f = option_map (λ x. record { order = cond (is_ordered r stamp out) Tso Ro; stamp = kept_stamp r stamp out; content = x }) (content_for d out.body f)

-- only an update or an interaction in time-stamp order may be retracted
abbrev pub is_retractable : TimeRow → Option ℕ → Outgoing → Bool
is_retractable r stamp out = is_ordered r stamp out && not (is_deletion out.body)

-- what is kept of a message that may be retracted; of another nothing is
abbrev pub sent_event : Directory → TimeRow → ℕ → Option ℕ → Outgoing → SentEvent
sent_event d r g stamp out = cond (is_retractable r stamp out)
    (record { stamp = kept_stamp r stamp out; retractable = true; retracted = false; receivers = is_receiver d g out.body }) no_event

-- one message takes its sender's next serial, with or without receivers
abbrev pub after_message : Central → ℕ → Option ℕ → Outgoing → Central
after_message c f stamp out = record c {
  serial = upd c.serial f (c.serial f + 1);
  bag = with_copies c.directory.joined c.bag f (c.serial f) (copy_for c.directory (c.row f) stamp out);
  sent = upd2 c.sent f (c.serial f) (sent_event c.directory (c.row f) f stamp out);
}

abbrev pub after_messages : Central → ℕ → Option ℕ → List Outgoing → Central
after_messages c f stamp [] = c
after_messages c f stamp (out ∷ outs) = after_messages (after_message c f stamp out) f stamp outs

-- the handle of the message in time-stamp order, if there is one; m is the serial of the first message
abbrev pub sent_handle : ℕ → TimeRow → Option ℕ → ℕ → List Outgoing → Option EventHandle
sent_handle f r stamp m [] = None
sent_handle f r stamp m (out ∷ outs) = or_else (when (is_ordered r stamp out) (Some (record { sender = f; serial = m }))) (sent_handle f r stamp (m + 1) outs)

-- is some part to go in time-stamp order
abbrev pub is_some_ordered : TimeRow → Option ℕ → List Outgoing → Bool
is_some_ordered r stamp [] = false
is_some_ordered r stamp (out ∷ outs) = cond (is_ordered r stamp out) true (is_some_ordered r stamp outs)

-- ---- retraction
-- to whom a retraction goes
abbrev pub is_told : Directory → ℕ → SentEvent → ℕ → Bool
is_told d g e f = is_other d.joined g f && e.receivers f

-- one more retraction is owed to each receiver that is still joined
unfoldable pub owed_to_receivers : (ℕ → ℕ → ℕ → ℕ) → ℕ → ℕ → (ℕ → Bool) → ℕ → ℕ → ℕ → ℕ
owed_to_receivers t g m told = λ h n f. t h n f + one_if (is_key g m h n && told f)

-- The messages of one federate that may be retracted, as a table by serial
use Rattle.std.specs.Prelude.{◌≡◌, ℕ, ◌<◌, cond, eqb, true, false, List, [], ◌∷◌, length, slice_index_or}
use Rattle.hla_retraction.specs.declared.sent.SentRow.{SentRow}
use Rattle.hla_retraction.specs.SentEvents.{SentEvent, no_event}
use Rattle.hla_base.specs.FederateSets.{federate_set}

-- what a row keeps of its message
abbrev pub row_event : SentRow → SentEvent
row_event row = record { stamp = row.stamp; retractable = true; retracted = row.retracted; receivers = federate_set row.receivers }

-- the message with a serial, where a row has it
unfoldable pub sent_of : List SentRow → ℕ → SentEvent
sent_of [] serial = no_event
sent_of (row ∷ rows) serial = cond (eqb row.serial serial) (row_event row) (sent_of rows serial)

-- stands past the last row, where lists are read by place
abbrev pub no_row : SentRow
no_row = record { serial = 0; stamp = 0; retracted = false; receivers = 0 }

-- the serial of the row at place i, counted from 0
abbrev pub serial_at : List SentRow → ℕ → ℕ
serial_at rows i = (slice_index_or rows i no_row).serial

-- the serials rise, so that no two rows have one
abbrev pub AreRising : List SentRow → Type 0
AreRising rows = (i j : ℕ) → i < j → j < length rows → serial_at rows i < serial_at rows j

-- the row at place i has the serial
pub record IsRowAt (rows : List SentRow) (serial i : ℕ) : Type 0 where
  pub in_range : i < length rows
  pub has_serial : serial_at rows i ≡ serial

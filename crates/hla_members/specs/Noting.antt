-- What is noted of messages that may be retracted
use Rattle.std.specs.Prelude.{ℕ, ◌≡◌, ◌≤◌, true, false, Option, None, Some, option_map}
use Rattle.hla_base.specs.Tables.{upd2}
use Rattle.hla_base.specs.declared.number.EventHandle.{EventHandle}
use Rattle.hla_retraction.specs.SentEvents.{SentEvent, no_event}
use Rattle.hla_base.specs.FederateSets.{federate_set}
use Rattle.hla_members.specs.declared.note.Note.{Note}

-- nothing is noted of the messages from a serial on
abbrev pub IsUnsentFrom : (ℕ → SentEvent) → ℕ → Type 0
IsUnsentFrom sent serial = (m : ℕ) → serial ≤ m → sent m ≡ no_event

abbrev pub noted_event : Note → SentEvent
noted_event note = record { stamp = note.stamp; retractable = true; retracted = false; receivers = federate_set note.receivers }

-- what each federate sent, with what is noted of one message of f
abbrev pub with_noted : (ℕ → ℕ → SentEvent) → ℕ → Option Note → ℕ → ℕ → SentEvent
with_noted sent f None = sent
with_noted sent f (Some note) = upd2 sent f note.serial (noted_event note)

-- the handle by which its sender may retract it
abbrev pub handle_noted : ℕ → Option Note → Option EventHandle
handle_noted f note = option_map (λ (n : Note). record { sender = f; serial = n.serial }) note

-- what each federate sent, with one message of f retracted
abbrev pub with_retracted : (ℕ → ℕ → SentEvent) → ℕ → ℕ → ℕ → ℕ → SentEvent
with_retracted sent f m = upd2 sent f m (record (sent f m) { retracted = true })

-- What is kept of a message that may be retracted (HLA 1.3, time management, Retract)
use Rattle.std.specs.Prelude.{ℕ, ◌&&◌, ltb, not, Bool, false}
use Rattle.hla_base.specs.declared.row.TimeRow.{TimeRow}
use Rattle.hla_base.specs.Rows.{is_enabled, least_stamp}

-- a message that was sent, by its sender and serial
pub record SentEvent : Type 0 where
  pub stamp : ℕ
  pub retractable : Bool  -- an update or an interaction in time-stamp order
  pub retracted : Bool
  pub receivers : ℕ → Bool

abbrev pub no_event : SentEvent
no_event = record { stamp = 0; retractable = false; retracted = false; receivers = λ _. false }

-- a retraction is accepted from a regulating sender for its own message, not retracted before, above the least stamp that it may send
abbrev pub may_retract : TimeRow → SentEvent → Bool
may_retract r e = is_enabled r.regulating && e.retractable && not e.retracted && ltb (least_stamp r) e.stamp

-- What lies under the lock: the history with its executions, and what monitors are shown of it
use Rattle.std.specs.Prelude.{◌≡◌, ◌⊎◌, ◌+◌, ℕ, Bool, true, false, List, length, Result, MatchResult}
use mathlib.Core.List.{IsPrefix}
use Rattle.hla_base.specs.declared.fault.Fault.{Fault}
use Rattle.hla_base.specs.declared.fault.Fault.TheVariants as fault
use Rattle.hla_machine.specs.declared.step.Act.{Act}
use Rattle.hla_machine.specs.declared.step.Choice.TheVariants as choice
use Rattle.hla_machine.specs.declared.step.Outcome.{Outcome}
use Rattle.hla_machine.specs.declared.step.Record.{Record}
use Rattle.hla_machine.specs.declared.step.Step.{Step}
use Rattle.hla_history.specs.Hosts.{with_record}
use Rattle.hla_history.specs.Hosting.{HeldValue, held_of}
use Rattle.hla_history.specs.Writing.{step_record, chosen_in}
use Rattle.hla_monitor.specs.Posted.{Posted}

pub record LockedValue : Type 0 where
  pub held : HeldValue
  pub posted : Posted
  pub ended : Bool  -- the records have gone out
  pub vain_steps : ℕ  -- how many steps were in vain

-- what is shown and what is published begin the history, and where no record was missed all of it is shown
pub record IsPosted (history : List Record) (posted : Posted) : Type 0 where
  pub shown : IsPrefix posted.shown history
  pub published : IsPrefix posted.published history
  pub whole : posted.whole ≡ true → posted.shown ≡ history

-- what lies on the board, with another beginning published
abbrev pub with_beginning_published : Posted → List Record → Posted
with_beginning_published p published = record { whole = p.whole; shown = p.shown; published = published; monitors = p.monitors }

-- while the history is there
abbrev pub IsPostedWhile : Bool → List Record → Posted → Type 0
IsPostedWhile ended history posted = ended ≡ false → IsPosted history posted

-- ---- what an act under the lock ends in
-- the record of an act that chooses nothing, as a creation or a destruction
abbrev pub choiceless_record : ℕ → List ℕ → Act → Outcome → Record
choiceless_record actor name a out = record { actor = actor; execution = name; act = a; outcome = out; choice = choice.None }

-- the record of a step, which may choose
abbrev pub own_record : LockedValue → ℕ → List ℕ → Step → Outcome → Record
own_record l actor name step out = step_record actor name step out (chosen_in ((held_of l.held).hosts.host name) step)

-- the history holds as many records as it may
abbrev pub IsFull : LockedValue → Type 0
IsFull l = length l.held.history ≡ l.held.limit

-- a record was written: the history and the executions are as it makes them
abbrev pub IsRecorded : LockedValue → Record → LockedValue → Type 0
IsRecorded old r new = (held_of new.held ≡ with_record (held_of old.held) r) × (new.ended ≡ old.ended)

-- nothing was recorded, as the history is full or memory was refused, and nothing has changed
abbrev pub IsNotRecorded : LockedValue → Fault → LockedValue → Type 0
IsNotRecorded old e new = ((e ≡ fault.HistoryFull) ⊎ (e ≡ fault.OutOfMemory)) × (new ≡ old)

-- the caller's share counts one more where its act was recorded, and else as many
abbrev pub CountsRecord : {T E : Type 0} → Result T E → ℕ → ℕ → Type 0
CountsRecord result old new = MatchResult result (λ _. new ≡ old + 1) (λ _. new ≡ old)

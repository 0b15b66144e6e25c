-- The whole history of a run: what the infrastructure itself did, line by line, and who did the rest
use Rattle.std.specs.Prelude.{◌≡◌, ◌⊎◌, ◌++◌, ◌∷◌, ◌+◌, ◌<◌, ◌≤◌, ℕ, List, [], length, Bool, true, false, Option, None, Some, codes, slice_get, slice_index_or}
use Rattle.std.specs.List.{All, Contains}
use Rattle.hla_base.specs.Limits.{max_callers}
use Rattle.hla_base.specs.declared.fault.Fault.TheVariants as fault
use Rattle.hla_catalogue.specs.CatalogueValue.{CatalogueValue}
use Rattle.hla_commands.specs.declared.lines.Command.{Command}
use Rattle.hla_commands.specs.declared.lines.Command.TheVariants as command
use Rattle.hla_commands.specs.declared.lines.Line.{Line}
use Rattle.hla_machine.specs.declared.step.Act.{Act}
use Rattle.hla_machine.specs.declared.step.Act.TheVariants as act
use Rattle.hla_machine.specs.declared.step.Outcome.{Outcome}
use Rattle.hla_machine.specs.declared.step.Outcome.TheVariants as outcome
use Rattle.hla_machine.specs.declared.step.Record.{Record}
use Rattle.hla_machine.specs.declared.step.Step.TheVariants as step
use Rattle.hla_history.specs.Closing.{records_by}
use Rattle.hla_history.specs.Creating.{catalogue_from}
use Rattle.hla_callers.specs.Callers.{Caller, Leaver, Office, answer_given}
use Rattle.hla_callers.specs.Close.{AllHere, AreOfCallers}
use Rattle.hla_interface.specs.Exchanges.{IsExchange}
use Rattle.hla_outcomes.specs.Joining.{joins}
use Rattle.hla_outcomes.specs.Running.{AreTold, IsRunFrom}
use Rattle.hla_outcomes.specs.declared.outcomes.LineOutcome.{LineOutcome}
use Rattle.hla_run.specs.Recorded.{AgreeAll, AreOutcomesRecorded, ArePlacesBelow, ArePlacesRising, AreTranscriptsIn, IsCallerInTurn, IsNameInTurn, IsOpeningLine, IsRecordOf, IsStranger, LacksRecord}

-- ---- what the infrastructure itself did
-- a line that destroys the execution
abbrev pub IsDestroyingLine : Command → Type 0
IsDestroyingLine asked = asked ≡ command.Destroy

-- the act that a line has the infrastructure itself do, where this is what its FED file says
abbrev pub IsActOfLine : Option CatalogueValue → Command → Act → Type 0
IsActOfLine read command.Create a = a ≡ act.Create read
IsActOfLine read command.Destroy a = a ≡ act.Destroy
IsActOfLine read (command.Join name) a = a ≡ act.Step (step.Join name)
IsActOfLine read (command.Carry from to) a = ⊥
IsActOfLine read (command.Announce name) a = ⊥
IsActOfLine read (command.Federate name call) a = ⊥

-- a joining is refused since no more callers are to be had, where no more than so many have been handed out
abbrev pub LacksCallers : ℕ → Command → Outcome → Type 0
LacksCallers handed asked out = (name : List ℕ) × (asked ≡ command.Join name) × (out ≡ outcome.Refused fault.LimitReached) × (max_callers ≤ handed)

-- a line has no record: the history was full, memory ran out, or it joins and no more callers are to be had
abbrev pub LacksLineRecord : ℕ → Command → Outcome → Type 0
LacksLineRecord handed asked out = LacksRecord out ⊎ LacksCallers handed asked out

-- the infrastructure has added a record that answers a line to its own, or the line has none
abbrev pub AddsLine : Option CatalogueValue → ℕ → List ℕ → Command → Outcome → Caller → Caller → Type 0
AddsLine read handed execution asked out old new =
    (a : Act) × IsActOfLine read asked a
    × (((r : Record) × (new.transcript ≡ old.transcript ++ r ∷ []) × IsRecordOf execution a (answer_given out) r) ⊎ ((new.transcript ≡ old.transcript) × LacksLineRecord handed asked out))

-- the same of a line that creates or joins; another one leaves its records as they are
abbrev pub OpensLine : Option CatalogueValue → ℕ → List ℕ → Command → Option Outcome → Caller → Caller → Type 0
OpensLine read handed execution asked (Some out) old new = AddsLine read handed execution asked out old new × IsOpeningLine asked
OpensLine read handed execution asked None old new = (new.transcript ≡ old.transcript) × (IsOpeningLine asked → ⊥)

-- these records answer what is told of lines, in turn, each by another one; or a line has none
abbrev pub AreDoneInTurn : Option CatalogueValue → ℕ → List Line → List ℕ → List Record → List LineOutcome → Type 0
AreDoneInTurn read handed lines execution records [] = records ≡ []
AreDoneInTurn read handed lines execution records (t ∷ ts) =
    (l : Line) × (a : Act) × (slice_get lines t.place ≡ Some l) × IsActOfLine read l.command a
    × (((r : Record) × (rest : List Record) × (records ≡ r ∷ rest) × IsRecordOf execution a (answer_given t.outcome) r × AreDoneInTurn read handed lines execution rest ts)
    ⊎ (LacksLineRecord handed l.command t.outcome × AreDoneInTurn read handed lines execution records ts))

-- the line at the place of what is told is of this kind
abbrev pub IsToldOf : (Command → Type 0) → List Line → LineOutcome → Type 0
IsToldOf Kind lines t = (l : Line) → slice_get lines t.place ≡ Some l → Kind l.command

-- what is told of the lines of this kind before a place is what these records answer, in turn
pub record AreDoneBelow (Kind : Command → Type 0) (read : Option CatalogueValue) (handed : ℕ) (lines : List Line) (execution : List ℕ) (k : ℕ) (records : List Record) (outcomes : List (Option Outcome)) : Type 0 where
  pub told : List LineOutcome
  pub rising : ArePlacesRising told
  pub below : ArePlacesBelow k told
  pub kind : All (IsToldOf Kind lines) told
  pub tells : (place : ℕ) (l : Line) (o : Outcome) → place < k → slice_get lines place ≡ Some l → Kind l.command → slice_index_or outcomes place None ≡ Some o → Contains told (record { place = place; outcome = o })
  pub in_turn : AreDoneInTurn read handed lines execution records told

-- lines that destroy are done in turn, behind what the infrastructure did before
abbrev pub DestroysInTurn : List Line → List ℕ → Caller → Caller → List (Option Outcome) → Type 0
DestroysInTurn lines execution old new outcomes =
    (read : Option CatalogueValue) (handed : ℕ) → (more : List Record) × (new.transcript ≡ old.transcript ++ more) × AreDoneBelow IsDestroyingLine read handed lines execution (length lines) more outcomes

-- all records of the infrastructure itself answer its lines, each by another one, in the execution of the script: those that create and join in
-- their order, then those that destroy
pub record IsOfficeInTurn (read : Option CatalogueValue) (lines : List Line) (history : List Record) (outcomes : List (Option Outcome)) : Type 0 where
  pub execution : List ℕ
  pub named : execution ≡ codes "play"
  pub first : List Record
  pub last : List Record
  pub all : records_by 0 history ≡ first ++ last
  pub opens : AreDoneBelow IsOpeningLine read (joins lines + joins lines) lines execution (length lines) first outcomes
  pub destroys : AreDoneBelow IsDestroyingLine read (joins lines + joins lines) lines execution (length lines) last outcomes

-- ---- who did the rest
-- a record of a federate, all of whose records answer what it told of its lines, in turn
abbrev pub IsFederatesRecord : CatalogueValue → List Line → List Record → Record → Type 0
IsFederatesRecord c lines history r = (name : List ℕ) × (caller : Caller) × (told : List LineOutcome) × IsCallerInTurn c lines history name caller told × (r.actor ≡ caller.number)

-- a record of the infrastructure itself, of a federate, or of an announcement or a carry
abbrev pub IsAccounted : CatalogueValue → List Line → List Record → Record → Type 0
IsAccounted c lines history r = (r.actor ≡ 0) ⊎ IsFederatesRecord c lines history r ⊎ IsExchange r

-- ---- a run
-- what is told of all lines is recorded, and where a name is taken for a stranger's, of no line is it told that one has joined under it; of each other
-- name what is told of its lines is answered in turn, and so is what is told of the infrastructure's own lines; all other records are announcements
-- and carries
pub record AreAllRecorded (read : Option CatalogueValue) (c : CatalogueValue) (lines : List Line) (history : List Record) (outcomes : List (Option Outcome)) : Type 0 where
  pub stranger : List ℕ → Bool
  pub recorded : AreOutcomesRecorded c lines history stranger outcomes
  pub strangers : (name : List ℕ) → stranger name ≡ true → IsStranger lines outcomes name
  pub in_turn : (name : List ℕ) → stranger name ≡ false → IsNameInTurn c lines history outcomes name
  pub office : IsOfficeInTurn read lines history outcomes
  pub accounted : (r : Record) → Contains history r → IsAccounted c lines history r

-- where the history has what all have left behind, and what the infrastructure did itself, it records what is told of the lines
abbrev pub RecordsTold : Option CatalogueValue → CatalogueValue → List Line → List (Option Outcome) → List Leaver → Office → Type 0
RecordsTold read c lines outcomes lefts rti =
    (history : List Record) → AreTranscriptsIn history lefts → AgreeAll history lefts → rti.own.transcript ≡ records_by 0 history → AllHere rti.handed lefts → AreOfCallers rti.handed history → AreAllRecorded read c lines history outcomes

-- what was written is told of lines as the history records it
abbrev pub IsToldRecorded : List Record → Option CatalogueValue → CatalogueValue → List Line → Option (List ℕ) → Option (List ℕ) → Type 0
IsToldRecorded history read c lines old new = (told : AreTold c lines old new) × AreAllRecorded read c lines history told.outcomes

abbrev pub IsRunRecorded : List Record → List ℕ → List ℕ → Option (List ℕ) → Option (List ℕ) → Type 0
IsRunRecorded history fed script old new = (run : IsRunFrom fed script old new) × AreAllRecorded (catalogue_from fed) run.catalogue run.lines history run.outcomes

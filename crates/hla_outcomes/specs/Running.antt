-- What a run of a script writes
use Rattle.std.specs.Prelude.{◌≡◌, ◌≤◌, ◌<◌, ℕ, List, [], length, take, Option, None, Some, Ok, Err, Bool, true, false, Result, ◌⊎◌, ◌∷◌, slice_get, slice_index_or, slice_set}
use Rattle.std.specs.List.{flat_map, enumerate_from}
use Rattle.std.specs.Io.KnownBytes.{Appends}
use Rattle.hla_catalogue.specs.CatalogueValue.{CatalogueValue}
use Rattle.hla_fed_file.specs.Reading as reading
use Rattle.hla_fed_file.specs.Grammar.{Describes}
use Rattle.hla_machine.specs.declared.step.Outcome.{Outcome}
use Rattle.hla_machine.specs.declared.step.Record.{Record}
use Rattle.hla_monitor.specs.Counts.{status_of}
use Rattle.hla_monitor.specs.declared.status.Status.{Status}
use Rattle.hla_commands.specs.declared.lines.Command.{Command}
use Rattle.hla_commands.specs.declared.lines.Command.TheVariants as command
use Rattle.hla_commands.specs.declared.lines.Line.{Line}
use Rattle.hla_commands.specs.Script.{script_of, ParsesAs}
use Rattle.hla_transcript.specs.Printed.{line_text}
use Rattle.hla_outcomes.specs.Joining.{script_joins}
use Rattle.hla_outcomes.specs.declared.fault.RunFault.{RunFault}
use Rattle.hla_outcomes.specs.declared.outcomes.LineOutcome.{LineOutcome}
use Rattle.hla_outcomes.specs.declared.fault.RunFault.TheVariants as stop

-- how a line came out, where it was done
abbrev pub told_line : CatalogueValue → Line → Option Outcome → List ℕ
told_line c l None = []
told_line c l (Some o) = line_text c l.number o

-- how the line at a place came out, by the outcomes of all places
abbrev pub told_at : CatalogueValue → List (Option Outcome) → ℕ → Line → List ℕ
told_at c outcomes place l = told_line c l (slice_index_or outcomes place None)

-- how the lines came out that were done, in the order of the script
abbrev pub told_text : CatalogueValue → List Line → List (Option Outcome) → List ℕ
told_text c lines outcomes = flat_map (λ p. told_at c outcomes p.0 p.1) (enumerate_from 0 lines)

-- how lines came out, once it is noted how one more did, in place of what was noted of it before
abbrev pub with_line_noted : List (Option Outcome) → LineOutcome → List (Option Outcome)
with_line_noted outcomes told = slice_set outcomes told.place (Some told.outcome)

-- the same of several, one after another
abbrev pub with_lines_noted : List (Option Outcome) → List LineOutcome → List (Option Outcome)
with_lines_noted outcomes [] = outcomes
with_lines_noted outcomes (told ∷ others) = with_lines_noted (with_line_noted outcomes told) others

-- a line that carries or announces, which is not run on threads
abbrev pub IsPassedOver : Command → Type 0
IsPassedOver command.Create = ⊥
IsPassedOver command.Destroy = ⊥
IsPassedOver (command.Join name) = ⊥
IsPassedOver (command.Carry from to) = Unit {0}
IsPassedOver (command.Announce name) = Unit {0}
IsPassedOver (command.Federate name call) = ⊥

-- the line at a place was done, or is passed over
abbrev pub IsDealtWith : List (Option Outcome) → ℕ → Line → Type 0
IsDealtWith outcomes place l = ((o : Outcome) × (slice_index_or outcomes place None ≡ Some o)) ⊎ IsPassedOver l.command

-- each line was done that does not carry or announce
abbrev pub AreAllDone : List Line → List (Option Outcome) → Type 0
AreAllDone lines outcomes = (place : ℕ) (l : Line) → slice_get lines place ≡ Some l → IsDealtWith outcomes place l

-- lines of a script have outcomes, all but those that carry or announce, and what was written is how they came out
pub record AreTold (catalogue : CatalogueValue) (lines : List Line) (old new : Option (List ℕ)) : Type 0 where
  pub outcomes : List (Option Outcome)
  pub each : length outcomes ≡ length lines
  pub done : AreAllDone lines outcomes
  pub writes : Appends old new (told_text catalogue lines outcomes)

-- a beginning of a text was written
abbrev pub IsCutText : Option (List ℕ) → Option (List ℕ) → List ℕ → Type 0
IsCutText old new text = (n : ℕ) × Appends old new (take n text)

-- the same, but only a beginning was written
pub record AreToldInPart (catalogue : CatalogueValue) (lines : List Line) (old new : Option (List ℕ)) : Type 0 where
  pub outcomes : List (Option Outcome)
  pub each : length outcomes ≡ length lines
  pub done : AreAllDone lines outcomes
  pub writes : IsCutText old new (told_text catalogue lines outcomes)

-- the FED file describes a catalogue, the script has these lines, each was done that does not carry or announce, and what was written
-- is how they came out
pub record IsRunFrom (fed script : List ℕ) (old new : Option (List ℕ)) : Type 0 where
  pub catalogue : CatalogueValue
  pub lines : List Line
  pub outcomes : List (Option Outcome)
  pub describes : Describes fed catalogue
  pub says : script_of script ≡ Ok lines
  pub each : length outcomes ≡ length lines
  pub done : AreAllDone lines outcomes
  pub writes : Appends old new (told_text catalogue lines outcomes)

-- the same, but only a beginning was written
pub record IsRunInPart (fed script : List ℕ) (old new : Option (List ℕ)) : Type 0 where
  pub catalogue : CatalogueValue
  pub lines : List Line
  pub describes : Describes fed catalogue
  pub says : script_of script ≡ Ok lines
  pub told : AreToldInPart catalogue lines old new

-- what a monitor counts in a beginning of these records
abbrev pub CountsBeginning : List Record → Status → Type 0
CountsBeginning records s = (s.steps ≤ length records) × (s ≡ status_of (take s.steps records))

-- a monitor has watched where one was to, and what it read last it counts in a beginning of the records
abbrev pub IsSeen : Bool → List Record → Option Status → Type 0
IsSeen is_watched records None = is_watched ≡ false
IsSeen is_watched records (Some s) = (is_watched ≡ true) × CountsBeginning records s

-- a text is at fault, or ambassadors are missing: the FED file is tested first,
-- then the script, and then whether there are as many ambassadors as lines that join
abbrev pub IsUnread : List ℕ → List ℕ → ℕ → RunFault → Type 0
IsUnread fed script ambassadors (stop.Fed e) = reading.ReadsAs (Err e) (reading.reading_of fed)
IsUnread fed script ambassadors (stop.Script e) = ((c : CatalogueValue) × Describes fed c) × ParsesAs (Err e) (script_of script)
IsUnread fed script ambassadors stop.Ambassadors = ((c : CatalogueValue) × Describes fed c) × (ambassadors < script_joins script)
IsUnread fed script ambassadors stop.Write = ⊥
IsUnread fed script ambassadors stop.Memory = ⊥
IsUnread fed script ambassadors (stop.Close e) = ⊥
IsUnread fed script ambassadors stop.Monitor = ⊥

-- why a script was not run to its end, for which there were so many ambassadors: before any step, and where memory ran out, nothing is
-- written; where a write failed, a beginning of how the lines came out; else all of it
abbrev pub StopsRun : List ℕ → List ℕ → ℕ → Option (List ℕ) → Option (List ℕ) → RunFault → Type 0
StopsRun fed script ambassadors old new (stop.Fed e) = IsUnread fed script ambassadors (stop.Fed e) × Appends old new []
StopsRun fed script ambassadors old new (stop.Script e) = IsUnread fed script ambassadors (stop.Script e) × Appends old new []
StopsRun fed script ambassadors old new stop.Ambassadors = IsUnread fed script ambassadors stop.Ambassadors × Appends old new []
StopsRun fed script ambassadors old new stop.Write = IsRunInPart fed script old new
StopsRun fed script ambassadors old new stop.Memory = Appends old new []
StopsRun fed script ambassadors old new (stop.Close e) = IsRunFrom fed script old new
StopsRun fed script ambassadors old new stop.Monitor = IsRunFrom fed script old new

-- how telling a text ends that does not end well: with nothing of it written, a beginning, or all of it
abbrev pub StopsText : List ℕ → Option (List ℕ) → Option (List ℕ) → RunFault → Type 0
StopsText text old new (stop.Fed e) = ⊥
StopsText text old new (stop.Script e) = ⊥
StopsText text old new stop.Ambassadors = ⊥
StopsText text old new stop.Write = IsCutText old new text
StopsText text old new stop.Memory = Appends old new []
StopsText text old new (stop.Close e) = Appends old new text
StopsText text old new stop.Monitor = Appends old new text

-- how the lines of a script end on threads that do not end well, once both texts are read and there are ambassadors enough
abbrev pub StopsTelling : CatalogueValue → List Line → Option (List ℕ) → Option (List ℕ) → RunFault → Type 0
StopsTelling c lines old new (stop.Fed e) = ⊥
StopsTelling c lines old new (stop.Script e) = ⊥
StopsTelling c lines old new stop.Ambassadors = ⊥
StopsTelling c lines old new stop.Write = AreToldInPart c lines old new
StopsTelling c lines old new stop.Memory = Appends old new []
StopsTelling c lines old new (stop.Close e) = AreTold c lines old new
StopsTelling c lines old new stop.Monitor = AreTold c lines old new

-- a write of the outcomes failed
abbrev pub is_failed_text : RunFault → Bool
is_failed_text (stop.Fed e) = false
is_failed_text (stop.Script e) = false
is_failed_text stop.Ambassadors = false
is_failed_text stop.Write = true
is_failed_text stop.Memory = false
is_failed_text (stop.Close e) = false
is_failed_text stop.Monitor = false

abbrev pub is_unwritten_run : {X : Type 0} → Result X RunFault → Bool
is_unwritten_run (Ok x) = false
is_unwritten_run (Err e) = is_failed_text e

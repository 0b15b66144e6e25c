-- What the lines of a script do
use Rattle.std.specs.Prelude.{◌≡◌, ◌≢◌, ◌<◌, ◌≤◌, ℕ, List, [], ◌∷◌, ◌++◌, ◌⊎◌, length, take, Option, None, Some, Ok, Err, codes, Bool, true, false, Result}
use Rattle.std.specs.Io.KnownBytes.{Appends}
use Rattle.hla_base.specs.Limits.{max_history}
use Rattle.hla_base.specs.declared.fault.Fault.{Fault}
use Rattle.hla_base.specs.declared.fault.Fault.TheVariants as fault
use Rattle.hla_catalogue.specs.CatalogueValue.{CatalogueValue}
use Rattle.hla_fed_file.specs.Reading as reading
use Rattle.hla_fed_file.specs.Grammar.{Describes}
use Rattle.hla_machine.specs.declared.step.Act.{Act}
use Rattle.hla_machine.specs.declared.step.Act.TheVariants as act
use Rattle.hla_machine.specs.declared.step.Outcome.{Outcome}
use Rattle.hla_machine.specs.declared.step.Outcome.TheVariants as outcome
use Rattle.hla_machine.specs.declared.step.Choice.{Choice}
use Rattle.hla_machine.specs.declared.step.Record.{Record}
use Rattle.hla_commands.specs.declared.lines.Command.{Command}
use Rattle.hla_commands.specs.declared.lines.Line.{Line}
use Rattle.hla_stage.specs.declared.player.StopFault.{StopFault}
use Rattle.hla_stage.specs.declared.player.StopFault.TheVariants as cut
use Rattle.hla_stage.specs.declared.player.PlayFault.{PlayFault}
use Rattle.hla_stage.specs.declared.player.PlayFault.TheVariants as stop
use Rattle.hla_requests.specs.declared.steps.Request.{Request}
use Rattle.hla_requests.specs.declared.steps.Request.TheVariants as request
use Rattle.hla_commands.specs.Script.{script_of, ParsesAs}
use Rattle.hla_transcript.specs.Printed.{line_text}
use Rattle.hla_requests.specs.Members.{members}
use Rattle.hla_requests.specs.Requests.{request_of}
use Rattle.hla_stage.specs.Following.{FollowNext}

-- ---- the record of a line
-- a create holds the catalogue, but for that of an execution that is there, which is refused before the FED file is looked at
abbrev pub created_catalogue : CatalogueValue → Outcome → Option CatalogueValue
created_catalogue c (outcome.Refused fault.FederationExecutionAlreadyExists) = None
created_catalogue c out = Some c

abbrev pub act_of : CatalogueValue → Request → Outcome → Act
act_of c request.Create out = act.Create (created_catalogue c out)
act_of c request.Destroy out = act.Destroy
act_of c (request.Step s) out = act.Step s

-- the record of a line's step, by its outcome and what was chosen
abbrev pub record_of : CatalogueValue → Request → Outcome → Choice → Record
record_of c asked out chosen = record { actor = 0; execution = codes "play"; act = act_of c asked out; outcome = out; choice = chosen }

-- ---- the lines in turn
-- a line asks for something behind some records, and there is room for its record
pub record IsAdmitted (c : CatalogueValue) (before : List Record) (command : Command) (asked : Request) : Type 0 where
  pub asks : request_of c (members before) command ≡ Ok asked
  pub room : length before < max_history

-- there is no room for one more record: the history is full, or memory ran out
abbrev pub HasNoRoom : List Record → Fault → Type 0
HasNoRoom before e = ((max_history ≤ length before) × (e ≡ fault.HistoryFull)) ⊎ ((length before < max_history) × (e ≡ fault.OutOfMemory))

-- how a line comes out behind some records, and the record that it adds, if it does
pub data LineEnds (c : CatalogueValue) (before : List Record) (command : Command) (out : Outcome) (added : List Record) : Type 0 where
  -- it makes no step
  WithoutStep : (e : Fault) → request_of c (members before) command ≡ Err e → out ≡ outcome.Refused e → added ≡ [] → LineEnds c before command out added
  -- the history is full
  Full : (asked : Request) → request_of c (members before) command ≡ Ok asked → max_history ≤ length before → out ≡ outcome.Refused fault.HistoryFull → added ≡ [] → LineEnds c before command out added
  -- memory ran out
  OutOfMemory : (asked : Request) → IsAdmitted c before command asked → out ≡ outcome.Refused fault.OutOfMemory → added ≡ [] → LineEnds c before command out added
  -- its step is recorded, with the choice that the next-state function makes
  Recorded : (asked : Request) (chosen : Choice) → IsAdmitted c before command asked → out ≢ outcome.Refused fault.OutOfMemory → added ≡ record_of c asked out chosen ∷ [] → LineEnds c before command out added

-- the lines end so, one after another, and lead from some records to others
abbrev pub Plays : CatalogueValue → List Record → List Line → List Outcome → List Record → Type 0
Plays c before [] [] after = before ≡ after
Plays c before [] (o ∷ os) after = ⊥
Plays c before (l ∷ ls) [] after = ⊥
Plays c before (l ∷ ls) (o ∷ os) after = (added : List Record) × (LineEnds c before l.command o added × Plays c (before ++ added) ls os after)

-- what is printed, a line for each
unfoldable pub transcript : CatalogueValue → List Line → List Outcome → List ℕ
transcript c [] os = []
transcript c (l ∷ ls) [] = []
transcript c (l ∷ ls) (o ∷ os) = line_text c l.number o ++ transcript c ls os

-- the lines have led from no records to these, and their outcomes are what was written
pub record IsPlayed (c : CatalogueValue) (lines : List Line) (old new : Option (List ℕ)) (records : List Record) : Type 0 where
  pub outcomes : List Outcome
  pub plays : Plays c [] lines outcomes records
  pub writes : Appends old new (transcript c lines outcomes)

-- no line ran out of memory
unfoldable pub AreRemembered : List Outcome → Type 0
AreRemembered [] = Unit {0}
AreRemembered (o ∷ os) = (o ≢ outcome.Refused fault.OutOfMemory) × AreRemembered os

-- the lines have led from no records to these, and no line ran out of memory where that was asked for
pub record IsPlayedAs (whole : Bool) (c : CatalogueValue) (lines : List Line) (old new : Option (List ℕ)) (records : List Record) : Type 0 where
  pub played : IsPlayed c lines old new records
  pub remembered : whole ≡ true → AreRemembered played.outcomes

-- a line has led from some records to others, and a text has grown by its outcome
pub record IsAnswered (c : CatalogueValue) (line : Line) (before after : List Record) (old new : List ℕ) : Type 0 where
  pub ended : Outcome
  pub added : List Record
  pub ends : LineEnds c before line.command ended added
  pub records : after ≡ before ++ added
  pub text : new ≡ old ++ line_text c line.number ended

-- the same, and it had the memory for what it asks where that is said
pub record IsAnsweredAs (whole : Bool) (c : CatalogueValue) (line : Line) (before after : List Record) (old new : List ℕ) : Type 0 where
  pub answered : IsAnswered c line before after old new
  pub remembered : whole ≡ true → answered.ended ≢ outcome.Refused fault.OutOfMemory

-- ---- a script over a FED file
-- the FED file describes a catalogue, the script asks for these lines, and they were played
pub record IsPlayedFrom (fed script : List ℕ) (old new : Option (List ℕ)) (records : List Record) : Type 0 where
  pub catalogue : CatalogueValue
  pub lines : List Line
  pub describes : Describes fed catalogue
  pub says : script_of script ≡ Ok lines
  pub played : IsPlayed catalogue lines old new records

-- the same, and no line ran out of memory
pub record IsPlayedWhole (fed script : List ℕ) (old new : Option (List ℕ)) (records : List Record) : Type 0 where
  pub from : IsPlayedFrom fed script old new records
  pub remembered : AreRemembered from.played.outcomes

-- the same, and no line ran out of memory where that was asked for
pub record IsPlayedAll (whole : Bool) (fed script : List ℕ) (old new : Option (List ℕ)) (records : List Record) : Type 0 where
  pub from : IsPlayedFrom fed script old new records
  pub remembered : whole ≡ true → AreRemembered from.played.outcomes

-- ---- a play that was broken off
-- of how the first of these lines ends, if there is one, a beginning was written; the records with its own, if it makes one, follow the
-- next-state function, so that even of it no made-up outcome is begun
abbrev pub IsBegun : CatalogueValue → List Record → List Line → Option (List ℕ) → Option (List ℕ) → Type 0
IsBegun c before [] old new = Appends old new []
IsBegun c before (l ∷ ls) old new = (o : Outcome) × (added : List Record) × LineEnds c before l.command o added × FollowNext (before ++ added) × ((n : ℕ) × Appends old new (take n (line_text c l.number o)))

-- the first of these lines were played and written whole, and these records are theirs, and follow the next-state function: what was
-- written is no less true for the break
pub record IsPlayedUpTo (whole : Bool) (c : CatalogueValue) (lines : List Line) (old new : Option (List ℕ)) (records : List Record) (left : List Line) : Type 0 where
  pub done : List Line
  pub parts : lines ≡ done ++ left
  pub played : IsPlayedAs whole c done old new records
  pub follows : FollowNext records

-- lines were played and written whole, up to one of which nothing was written
pub record IsLeftAt (whole : Bool) (c : CatalogueValue) (lines : List Line) (old new : Option (List ℕ)) : Type 0 where
  pub records : List Record
  pub left : List Line
  pub played : IsPlayedUpTo whole c lines old new records left

-- lines were played and written whole, up to one of which no more than a beginning was written
pub record IsLeftIn (whole : Bool) (c : CatalogueValue) (lines : List Line) (old new : Option (List ℕ)) : Type 0 where
  pub records : List Record
  pub left : List Line
  pub middle : Option (List ℕ)
  pub played : IsPlayedUpTo whole c lines old middle records left
  pub begun : IsBegun c records left middle new

-- why lines were not played to their end: what was written is whole up to where memory ran out, or a write failed
abbrev pub BreaksOff : Bool → CatalogueValue → List Line → Option (List ℕ) → Option (List ℕ) → StopFault → Type 0
BreaksOff whole c lines old new cut.Write = IsLeftIn whole c lines old new
BreaksOff whole c lines old new cut.Memory = IsLeftAt whole c lines old new

-- the FED file describes a catalogue, the script asks for these lines, and playing them was broken off
pub record IsBrokenOff (whole : Bool) (fed script : List ℕ) (old new : Option (List ℕ)) (why : StopFault) : Type 0 where
  pub catalogue : CatalogueValue
  pub lines : List Line
  pub describes : Describes fed catalogue
  pub says : script_of script ≡ Ok lines
  pub breaks : BreaksOff whole catalogue lines old new why

-- why a script was not played to its end: the FED file is tested first, and a text at fault prints nothing; where a write failed, or
-- there was no memory for a text, each line before is written whole, and of the next one a beginning where a write failed, else nothing
abbrev pub StopsBy : Bool → List ℕ → List ℕ → Option (List ℕ) → Option (List ℕ) → PlayFault → Type 0
StopsBy whole fed script old new (stop.Fed e) = reading.ReadsAs (Err e) (reading.reading_of fed) × Appends old new []
StopsBy whole fed script old new (stop.Script e) = ((c : CatalogueValue) × Describes fed c) × ParsesAs (Err e) (script_of script) × Appends old new []
StopsBy whole fed script old new stop.Write = IsBrokenOff whole fed script old new cut.Write
StopsBy whole fed script old new stop.Memory = IsBrokenOff whole fed script old new cut.Memory

-- the FED file describes a catalogue, the script asks for these lines, and what was written is a beginning of what they print that are
-- played to their end, with records that follow the next-state function
pub record IsBeginning (fed script : List ℕ) (old new : Option (List ℕ)) : Type 0 where
  pub catalogue : CatalogueValue
  pub lines : List Line
  pub describes : Describes fed catalogue
  pub says : script_of script ≡ Ok lines
  pub outcomes : List Outcome
  pub records : List Record
  pub plays : Plays catalogue [] lines outcomes records
  pub follows : FollowNext records
  pub written : ℕ
  pub writes : Appends old new (take written (transcript catalogue lines outcomes))

-- a fault of the texts leaves nothing written; any other, a beginning of a transcript of theirs
abbrev pub BeginsBy : List ℕ → List ℕ → Option (List ℕ) → Option (List ℕ) → PlayFault → Type 0
BeginsBy fed script old new (stop.Fed e) = Appends old new []
BeginsBy fed script old new (stop.Script e) = Appends old new []
BeginsBy fed script old new stop.Write = IsBeginning fed script old new
BeginsBy fed script old new stop.Memory = IsBeginning fed script old new

-- a write of the transcript failed
abbrev pub is_cut_off : {X : Type 0} → Result X StopFault → Bool
is_cut_off (Ok x) = false
is_cut_off (Err cut.Write) = true
is_cut_off (Err cut.Memory) = false

abbrev pub is_failed_transcript : PlayFault → Bool
is_failed_transcript (stop.Fed e) = false
is_failed_transcript (stop.Script e) = false
is_failed_transcript stop.Write = true
is_failed_transcript stop.Memory = false

abbrev pub is_unwritten_transcript : {X : Type 0} → Result X PlayFault → Bool
is_unwritten_transcript (Ok x) = false
is_unwritten_transcript (Err e) = is_failed_transcript e

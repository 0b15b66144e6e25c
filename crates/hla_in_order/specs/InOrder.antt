-- What the lines of a script do behind the lock, one after another on one thread
use Rattle.std.specs.Prelude.{map, ◌≡◌, ◌⊎◌, ◌+◌, ◌<◌, ℕ, List, [], ◌∷◌, ◌++◌, length, Option, Some, Ok, Err, codes, slice_get}
use Rattle.std.specs.List.{All, Contains, flat_map}
use Rattle.std.specs.Io.KnownBytes.{Appends}
use Rattle.hla_base.specs.Limits.{max_callers}
use Rattle.hla_base.specs.declared.fault.Fault.{Fault}
use Rattle.hla_base.specs.declared.fault.Fault.TheVariants as fault
use Rattle.hla_catalogue.specs.CatalogueValue.{CatalogueValue}
use Rattle.hla_commands.specs.declared.lines.Command.{Command}
use Rattle.hla_commands.specs.declared.lines.Line.{Line}
use Rattle.hla_commands.specs.Script.{script_of}
use Rattle.hla_fed_file.specs.Grammar.{Describes}
use Rattle.hla_outcomes.specs.Running.{told_text, IsCutText, IsUnread}
use Rattle.hla_outcomes.specs.declared.fault.RunFault.{RunFault}
use Rattle.hla_outcomes.specs.declared.fault.RunFault.TheVariants as stop
use Rattle.hla_machine.specs.declared.service.ResignAction.{ResignAction}
use Rattle.hla_machine.specs.declared.service.Service.TheVariants as service
use Rattle.hla_machine.specs.declared.step.Act.{Act}
use Rattle.hla_machine.specs.declared.step.Act.TheVariants as act
use Rattle.hla_machine.specs.declared.step.Answer.TheVariants as answer
use Rattle.hla_machine.specs.declared.step.Choice.{Choice}
use Rattle.hla_machine.specs.declared.step.Outcome.{Outcome}
use Rattle.hla_machine.specs.declared.step.Outcome.TheVariants as outcome
use Rattle.hla_machine.specs.declared.step.Record.{Record}
use Rattle.hla_machine.specs.declared.step.Step.{Step}
use Rattle.hla_machine.specs.declared.step.Step.TheVariants as step
use Rattle.hla_history.specs.Closing.{records_by}
use Rattle.hla_history.specs.Creating.{catalogue_from}
use Rattle.hla_callers.specs.Callers.{answer_given}
use Rattle.hla_requests.specs.Members.{members}
use Rattle.hla_requests.specs.Requests.{request_of}
use Rattle.hla_requests.specs.declared.steps.Request.{Request}
use Rattle.hla_requests.specs.declared.steps.Request.TheVariants as request

-- ---- who does what a line asks for
-- the number of the federate that has joined by an act, if one has
abbrev pub number_joined : Act → Outcome → List ℕ
number_joined (act.Step (step.Join name)) (outcome.Done (answer.Federate f)) = f ∷ []
number_joined a out = []

-- the federates that have joined, by their numbers, in the order in which they have
abbrev pub entrants : List Record → List ℕ
entrants records = flat_map (λ (r : Record). number_joined r.act r.outcome) records

-- the caller of this number is a federate that joined and has this number in its execution
abbrev pub IsEntrant : List Record → ℕ → ℕ → Type 0
IsEntrant before f n = (k : ℕ) × (n ≡ k + 2) × (slice_get (entrants before) k ≡ Some f)

abbrev pub IsStepper : List Record → Step → ℕ → Type 0
IsStepper before (step.Join name) n = n ≡ 0
IsStepper before (step.Carry from to) n = n ≡ 1
IsStepper before (step.Announce f) n = n ≡ 1
IsStepper before (step.Call f s) n = IsEntrant before f n
IsStepper before (step.Tick f) n = IsEntrant before f n

-- who does what is asked: caller 0, the infrastructure itself, creates, destroys and joins; 1, the courier, carries and announces;
-- from 2 on, in the order in which they joined, each federate calls and ticks
abbrev pub IsCaller : List Record → Request → ℕ → Type 0
IsCaller before request.Create n = n ≡ 0
IsCaller before request.Destroy n = n ≡ 0
IsCaller before (request.Step s) n = IsStepper before s n

-- the act that is recorded of what is asked
abbrev pub act_asked : List ℕ → Request → Act
act_asked fed request.Create = act.Create (catalogue_from fed)
act_asked fed request.Destroy = act.Destroy
act_asked fed (request.Step s) = act.Step s

-- how many callers there are behind these records: the infrastructure, the courier, and each federate that joined
abbrev pub callers : List Record → ℕ
callers records = length (entrants records) + 2

-- one of the records is of the resigning of the federate of this number, which was done
abbrev pub HasResigning : List Record → ℕ → Type 0
HasResigning records f = (way : ResignAction) × (r : Record) × Contains records r × (r.act ≡ act.Step (step.Call f (service.Resign way))) × (r.outcome ≡ outcome.Done answer.Done)

-- each caller that joined as the federate of this number has resigned, by its own records
abbrev pub HaveResigned : List Record → ℕ → Type 0
HaveResigned before f = (n : ℕ) → IsEntrant before f n → HasResigning (records_by n before) f

abbrev pub IsMissed : List Record → Step → Fault → Type 0
IsMissed before (step.Join name) e = (e ≡ fault.LimitReached) × (max_callers < callers before)
IsMissed before (step.Carry from to) e = ⊥
IsMissed before (step.Announce f) e = ⊥
IsMissed before (step.Call f s) e = (e ≡ fault.FederateNotExecutionMember) × HaveResigned before f
IsMissed before (step.Tick f) e = (e ≡ fault.FederateNotExecutionMember) × HaveResigned before f

-- why nothing is recorded of what is asked: the history is full, or memory ran out; or no more callers are to be had for one who joins;
-- or the federate has resigned
abbrev pub IsUnrecorded : List Record → Request → Fault → Type 0
IsUnrecorded before request.Create e = (e ≡ fault.HistoryFull) ⊎ (e ≡ fault.OutOfMemory)
IsUnrecorded before request.Destroy e = (e ≡ fault.HistoryFull) ⊎ (e ≡ fault.OutOfMemory)
IsUnrecorded before (request.Step s) e = ((e ≡ fault.HistoryFull) ⊎ (e ≡ fault.OutOfMemory)) ⊎ IsMissed before s e

-- ---- the lines in turn
-- how what is asked comes out behind some records, and the record that it adds, if it does
pub data RequestEnds (fed : List ℕ) (before : List Record) (asked : Request) (out : Outcome) (added : List Record) : Type 0 where
  -- nothing is recorded
  Unrecorded : (e : Fault) → IsUnrecorded before asked e → out ≡ outcome.Refused e → added ≡ [] → RequestEnds fed before asked out added
  -- its caller's record is added, and it comes out as that answers
  Recorded : (n : ℕ) (ended : Outcome) (chosen : Choice) → IsCaller before asked n → answer_given out ≡ answer_given ended
      → added ≡ record { actor = n; execution = codes "play"; act = act_asked fed asked; outcome = ended; choice = chosen } ∷ [] → RequestEnds fed before asked out added

-- how a line comes out behind some records, and the record that it adds, if it does
pub data LineComesOut (c : CatalogueValue) (fed : List ℕ) (before : List Record) (command : Command) (out : Outcome) (added : List Record) : Type 0 where
  -- it makes no step, as what it names is not found, or a value is too long
  WithoutStep : (e : Fault) → request_of c (members before) command ≡ Err e → out ≡ outcome.Refused e → added ≡ [] → LineComesOut c fed before command out added
  -- it asks for something
  Asked : (asked : Request) → request_of c (members before) command ≡ Ok asked → RequestEnds fed before asked out added → LineComesOut c fed before command out added

-- the lines end so, one after another, and lead from some records to others
abbrev pub Does : CatalogueValue → List ℕ → List Record → List Line → List Outcome → List Record → Type 0
Does c fed before [] [] after = before ≡ after
Does c fed before [] (o ∷ os) after = ⊥
Does c fed before (l ∷ ls) [] after = ⊥
Does c fed before (l ∷ ls) (o ∷ os) after = (added : List Record) × (LineComesOut c fed before l.command o added × Does c fed (before ++ added) ls os after)

-- ---- the history
-- of each caller the history has just its part of these records, in their order, and there are no others
abbrev pub HasJust : List Record → List Record → Type 0
HasJust history records = ((n : ℕ) → n < callers records → records_by n history ≡ records_by n records) × All (λ (r : Record). r.actor < callers records) history

-- ---- a script over a FED file
-- the FED file describes a catalogue, and the script asks for these lines; they did what these records say, the history has of each
-- caller just its part of them, and what was written is how each line came out
pub record IsRunInOrder (fed script : List ℕ) (old new : Option (List ℕ)) (history : List Record) : Type 0 where
  pub catalogue : CatalogueValue
  pub lines : List Line
  pub outcomes : List Outcome
  pub records : List Record
  pub describes : Describes fed catalogue
  pub says : script_of script ≡ Ok lines
  pub does : Does catalogue fed [] lines outcomes records
  pub kept : HasJust history records
  pub writes : Appends old new (told_text catalogue lines (map (λ o. Some o) outcomes))

-- the same of lines of which the history is not known: how they came out was written as is said of that text
pub record IsDoneInOrder (fed script : List ℕ) (IsWritten : List ℕ → Type 0) : Type 0 where
  pub catalogue : CatalogueValue
  pub lines : List Line
  pub outcomes : List Outcome
  pub records : List Record
  pub describes : Describes fed catalogue
  pub says : script_of script ≡ Ok lines
  pub does : Does catalogue fed [] lines outcomes records
  pub writes : IsWritten (told_text catalogue lines (map (λ o. Some o) outcomes))

-- why a script was not run in order to its end, for which there were so many ambassadors: before any step, and where memory ran out,
-- nothing is written; where a write failed, a beginning of how the lines came out; else all of it
abbrev pub StopsInOrder : List ℕ → List ℕ → ℕ → Option (List ℕ) → Option (List ℕ) → RunFault → Type 0
StopsInOrder fed script ambassadors old new (stop.Fed e) = IsUnread fed script ambassadors (stop.Fed e) × Appends old new []
StopsInOrder fed script ambassadors old new (stop.Script e) = IsUnread fed script ambassadors (stop.Script e) × Appends old new []
StopsInOrder fed script ambassadors old new stop.Ambassadors = IsUnread fed script ambassadors stop.Ambassadors × Appends old new []
StopsInOrder fed script ambassadors old new stop.Write = IsDoneInOrder fed script (IsCutText old new)
StopsInOrder fed script ambassadors old new stop.Memory = Appends old new []
StopsInOrder fed script ambassadors old new (stop.Close e) = IsDoneInOrder fed script (Appends old new)
StopsInOrder fed script ambassadors old new stop.Monitor = IsDoneInOrder fed script (Appends old new)

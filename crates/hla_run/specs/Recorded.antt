-- What is told of the lines of federates, by the records of the history
use Rattle.std.specs.Prelude.{◌≡◌, ◌⊎◌, ◌++◌, ◌∷◌, ◌+◌, ◌<◌, ℕ, List, [], length, Bool, true, not, Option, None, Some, Result, Ok, Err, codes, slice_get, slice_index_or}
use Rattle.hla_base.specs.declared.fault.Fault.{Fault}
use Rattle.hla_base.specs.declared.fault.Fault.TheVariants as fault
use Rattle.std.specs.List.{All, Contains, list_any}
use Rattle.std.specs.Str.{bytes_eq}
use Rattle.hla_catalogue.specs.CatalogueValue.{CatalogueValue}
use Rattle.hla_commands.specs.declared.lines.Call.{Call}
use Rattle.hla_commands.specs.declared.lines.Command.{Command}
use Rattle.hla_commands.specs.declared.lines.Command.TheVariants as command
use Rattle.hla_commands.specs.declared.lines.Line.{Line}
use Rattle.hla_machine.specs.declared.service.ResignAction.{ResignAction}
use Rattle.hla_machine.specs.declared.service.Service.{Service}
use Rattle.hla_machine.specs.declared.service.Service.TheVariants as service
use Rattle.hla_machine.specs.declared.step.Act.{Act}
use Rattle.hla_machine.specs.declared.step.Act.TheVariants as act
use Rattle.hla_machine.specs.declared.step.Answer.{Answer}
use Rattle.hla_machine.specs.declared.step.Answer.TheVariants as answer
use Rattle.hla_machine.specs.declared.step.Outcome.{Outcome}
use Rattle.hla_machine.specs.declared.step.Outcome.TheVariants as outcome
use Rattle.hla_machine.specs.declared.step.Record.{Record}
use Rattle.hla_machine.specs.declared.step.Step.TheVariants as step
use Rattle.hla_requests.specs.Requests.{service_of}
use Rattle.hla_callers.specs.Callers.{Caller, Leaver, answer_given}
use Rattle.hla_callers.specs.Close.{Agrees}
use Rattle.hla_interface.specs.Exchanges.{IsExchange}
use Rattle.hla_players.specs.Deeds.{caller_of}
use Rattle.hla_run.specs.declared.life.Life.{Life}
use Rattle.hla_outcomes.specs.declared.outcomes.LineOutcome.{LineOutcome}
use Rattle.hla_players.specs.declared.player.Player.{Player}
use Rattle.hla_players.specs.declared.player.Player.TheVariants as player

-- the act by which a federate does it
abbrev pub act_of_call : Option Service → ℕ → Act
act_of_call None f = act.Step (step.Tick f)
act_of_call (Some s) f = act.Step (step.Call f s)

-- ---- what a record answers
-- one of the records is of this act in an execution, and answers this
pub record HasAnswerOf (records : List Record) (execution : List ℕ) (a : Act) (given : Result Answer Fault) : Type 0 where
  pub found : Record
  pub there : Contains records found
  pub inside : found.execution ≡ execution
  pub acts : found.act ≡ a
  pub answers : answer_given found.outcome ≡ given

-- an act without a record: the history was full, or memory ran out
abbrev pub LacksRecord : Outcome → Type 0
LacksRecord out = (e : Fault) × (out ≡ outcome.Refused e) × ((e ≡ fault.HistoryFull) ⊎ (e ≡ fault.OutOfMemory))

-- an act is told as a record answers, or has none
abbrev pub IsActRecorded : List Record → List ℕ → Act → Outcome → Type 0
IsActRecorded records execution a out = HasAnswerOf records execution a (answer_given out) ⊎ LacksRecord out

-- one of the records is of what the call asks this federate for, and answers this
pub record HasCallOf (c : CatalogueValue) (records : List Record) (execution : List ℕ) (f : ℕ) (call : Call) (given : Result Answer Fault) : Type 0 where
  pub asked : Option Service
  pub asks : service_of c call ≡ Ok asked
  pub answered : HasAnswerOf records execution (act_of_call asked f) given

-- by the records this federate has resigned
abbrev pub IsResignedBy : List Record → List ℕ → ℕ → Type 0
IsResignedBy records execution f = (way : ResignAction) × HasAnswerOf records execution (act.Step (step.Call f (service.Resign way))) (Ok answer.Done)

-- a call of this federate that is refused without a record: what it asks for is not to be had by the names of the catalogue, the history
-- was full, memory ran out, or the federate has resigned
abbrev pub IsUnmade : CatalogueValue → List Record → List ℕ → ℕ → Call → Outcome → Type 0
IsUnmade c records execution f call out =
    (e : Fault) × (out ≡ outcome.Refused e)
    × ((service_of c call ≡ Err e) ⊎ (e ≡ fault.HistoryFull) ⊎ (e ≡ fault.OutOfMemory) ⊎ ((e ≡ fault.FederateNotExecutionMember) × IsResignedBy records execution f))

-- a call of this federate is told as a record answers, or was not made
abbrev pub IsCallRecorded : CatalogueValue → List Record → List ℕ → ℕ → Call → Outcome → Type 0
IsCallRecorded c records execution f call out = HasCallOf c records execution f call (answer_given out) ⊎ IsUnmade c records execution f call out

-- one of the records is of the joining of a federate of this name, and answers this number
abbrev pub HasJoined : List Record → List ℕ → List ℕ → ℕ → Type 0
HasJoined records execution name f = HasAnswerOf records execution (act.Step (step.Join name)) (Ok (answer.Federate f))

-- by the records a federate has joined under this name, and was asked for what the call asks for, and was answered this
pub record IsCallAnswered (c : CatalogueValue) (records : List Record) (name : List ℕ) (call : Call) (given : Result Answer Fault) : Type 0 where
  pub execution : List ℕ
  pub federate : ℕ
  pub joined : HasJoined records execution name federate
  pub called : HasCallOf c records execution federate call given

-- by the records a federate has joined under this name, and what the call asks for was refused without a record
pub record IsCallUnmade (c : CatalogueValue) (records : List Record) (name : List ℕ) (call : Call) (out : Outcome) : Type 0 where
  pub execution : List ℕ
  pub federate : ℕ
  pub joined : HasJoined records execution name federate
  pub unmade : IsUnmade c records execution federate call out

-- a call is refused since its name is a stranger's, under which nobody has joined
abbrev pub IsStrangersCall : (List ℕ → Bool) → List ℕ → Outcome → Type 0
IsStrangersCall stranger name out = (out ≡ outcome.Refused fault.FederateNotExecutionMember) × (stranger name ≡ true)

-- a call of the federate of this name is told as a record answers, or was not made, or nobody has joined under the name
abbrev pub IsNamedCallRecorded : CatalogueValue → List Record → (List ℕ → Bool) → List ℕ → Call → Outcome → Type 0
IsNamedCallRecorded c records stranger name call out =
    IsCallAnswered c records name call (answer_given out) ⊎ IsCallUnmade c records name call out ⊎ IsStrangersCall stranger name out

-- what the infrastructure itself does in an execution is told as a record answers, or has none
abbrev pub IsOfficeRecorded : List Record → Act → Outcome → Type 0
IsOfficeRecorded records a out = (execution : List ℕ) × IsActRecorded records execution a out

-- a joining has none either where no more callers are to be had
abbrev pub IsJoiningRecorded : List Record → List ℕ → Outcome → Type 0
IsJoiningRecorded records name out = IsOfficeRecorded records (act.Step (step.Join name)) out ⊎ (out ≡ outcome.Refused fault.LimitReached)

-- a line that is done is told as a record answers, or why there is none, where these names are strangers'; of lines that carry or announce
-- nothing is told
abbrev pub IsLineRecorded : CatalogueValue → List Record → (List ℕ → Bool) → Command → Outcome → Type 0
IsLineRecorded c records stranger command.Create out = (read : Option CatalogueValue) × IsOfficeRecorded records (act.Create read) out
IsLineRecorded c records stranger command.Destroy out = IsOfficeRecorded records act.Destroy out
IsLineRecorded c records stranger (command.Join name) out = IsJoiningRecorded records name out
IsLineRecorded c records stranger (command.Carry from to) out = ⊥
IsLineRecorded c records stranger (command.Announce name) out = ⊥
IsLineRecorded c records stranger (command.Federate name call) out = IsNamedCallRecorded c records stranger name call out

-- ---- what is told of lines
-- the line at a place has the federate of this name do what the call asks
abbrev pub IsCallAt : List Line → ℕ → List ℕ → Call → Type 0
IsCallAt lines place name call = (l : Line) → slice_get lines place ≡ Some l → l.command ≡ command.Federate name call

abbrev pub IsTellingRecorded : CatalogueValue → List Line → List Record → (List ℕ → Bool) → LineOutcome → Type 0
IsTellingRecorded c lines records stranger t = (l : Line) → slice_get lines t.place ≡ Some l → IsLineRecorded c records stranger l.command t.outcome

abbrev pub AreTellingsRecorded : CatalogueValue → List Line → List Record → (List ℕ → Bool) → List LineOutcome → Type 0
AreTellingsRecorded c lines records stranger told = All (IsTellingRecorded c lines records stranger) told

-- what is told of each line, of those that are told of
abbrev pub AreOutcomesRecorded : CatalogueValue → List Line → List Record → (List ℕ → Bool) → List (Option Outcome) → Type 0
AreOutcomesRecorded c lines records stranger outcomes =
    (place : ℕ) (l : Line) (o : Outcome) → slice_get lines place ≡ Some l → slice_index_or outcomes place None ≡ Some o → IsLineRecorded c records stranger l.command o

-- of no line that joins under this name it is told that a federate has joined
abbrev pub IsStranger : List Line → List (Option Outcome) → List ℕ → Type 0
IsStranger lines outcomes name =
    (place : ℕ) (l : Line) (f : ℕ) → slice_get lines place ≡ Some l → l.command ≡ command.Join name → slice_index_or outcomes place None ≡ Some (outcome.Done (answer.Federate f)) → ⊥

-- a line that creates the execution or joins a federate
abbrev pub IsOpeningLine : Command → Type 0
IsOpeningLine command.Create = Unit {0}
IsOpeningLine command.Destroy = ⊥
IsOpeningLine (command.Join name) = Unit {0}
IsOpeningLine (command.Carry from to) = ⊥
IsOpeningLine (command.Announce name) = ⊥
IsOpeningLine (command.Federate name call) = ⊥

-- of lines that create and join the same is told as before, or nothing was told of them and nothing is
abbrev pub KeepsOpenings : List Line → List (Option Outcome) → List (Option Outcome) → Type 0
KeepsOpenings lines old new =
    (place : ℕ) (l : Line) (o : Outcome) → slice_get lines place ≡ Some l → IsOpeningLine l.command → slice_index_or new place None ≡ Some o → slice_index_or old place None ≡ Some o

-- ---- each line by a record of its own, in the order of the lines
-- this record is of this act in an execution, and answers this
abbrev pub IsRecordOf : List ℕ → Act → Result Answer Fault → Record → Type 0
IsRecordOf execution a given r = (r.execution ≡ execution) × (r.act ≡ a) × (answer_given r.outcome ≡ given)

-- this record is of what the call asks this federate for, and answers this
abbrev pub IsAnswerTo : CatalogueValue → List ℕ → ℕ → Call → Result Answer Fault → Record → Type 0
IsAnswerTo c execution f call given r = (asked : Option Service) × (service_of c call ≡ Ok asked) × IsRecordOf execution (act_of_call asked f) given r

-- these records are of ticks of this federate that gave nothing
abbrev pub AreEmptyTicks : List ℕ → ℕ → List Record → Type 0
AreEmptyTicks execution f records = All (IsRecordOf execution (act.Step (step.Tick f)) (Ok (answer.Ticked None))) records

-- how often a line that ticks does so at most
abbrev pub max_line_ticks : ℕ
max_line_ticks = 1000

-- these are what a call has spent before it was answered: ticks with nothing, where it ticks, and else nothing
abbrev pub AreSpent : CatalogueValue → List ℕ → ℕ → Call → List Record → Type 0
AreSpent c execution f call records = AreEmptyTicks execution f records × ((records ≡ []) ⊎ ((service_of c call ≡ Ok None) × (length records < max_line_ticks)))

-- that a tick gave nothing is told only of the last that a line may make
abbrev pub IsLastTick : Outcome → List Record → Type 0
IsLastTick out spent = out ≡ outcome.Done (answer.Ticked None) → length spent + 1 ≡ max_line_ticks

-- the same where a call ticks
abbrev pub GivesUpLast : CatalogueValue → Call → Outcome → List Record → Type 0
GivesUpLast c call out spent = service_of c call ≡ Ok None → IsLastTick out spent

-- behind these records of a caller, those that follow are what lines of this name are answered by, in the order of what is told of them,
-- each by another one behind what it has spent; or a call was not made, by the caller's records until then alone
abbrev pub AreAnsweredInTurn : CatalogueValue → List Line → List Record → List ℕ → ℕ → List ℕ → List Record → List LineOutcome → Type 0
AreAnsweredInTurn c lines before execution f name records [] = records ≡ []
AreAnsweredInTurn c lines before execution f name records (t ∷ ts) =
    (call : Call) × (spent : List Record) × IsCallAt lines t.place name call × AreSpent c execution f call spent
    × (((r : Record) × (rest : List Record) × (records ≡ spent ++ r ∷ rest) × IsAnswerTo c execution f call (answer_given t.outcome) r × GivesUpLast c call t.outcome spent × AreAnsweredInTurn c lines (before ++ (spent ++ r ∷ [])) execution f name rest ts)
    ⊎ ((rest : List Record) × (records ≡ spent ++ rest) × IsUnmade c (before ++ spent) execution f call t.outcome × AreAnsweredInTurn c lines (before ++ spent) execution f name rest ts))

-- the caller has added to its transcript what it has spent, and a record that answers the act; or that has none
abbrev pub AddsAct : List ℕ → Act → Outcome → List Record → Caller → Caller → Type 0
AddsAct execution a out spent old new =
    ((r : Record) × (new.transcript ≡ old.transcript ++ (spent ++ r ∷ [])) × IsRecordOf execution a (answer_given out) r) ⊎ ((new.transcript ≡ old.transcript ++ spent) × LacksRecord out)

-- a federate has ticked until something came, or as often as a line may
abbrev pub AddsTicks : List ℕ → ℕ → Outcome → Caller → Caller → Type 0
AddsTicks execution f out old new =
    (spent : List Record) × AreEmptyTicks execution f spent × (length spent < max_line_ticks) × IsLastTick out spent × AddsAct execution (act.Step (step.Tick f)) out spent old new

-- the caller has added to its transcript what a call has spent, and a record that answers it; or it was not made
abbrev pub AddsCall : CatalogueValue → List ℕ → ℕ → Call → Outcome → Caller → Caller → Type 0
AddsCall c execution f call out old new =
    (spent : List Record) × AreSpent c execution f call spent
    × (((r : Record) × (new.transcript ≡ old.transcript ++ (spent ++ r ∷ [])) × IsAnswerTo c execution f call (answer_given out) r × GivesUpLast c call out spent) ⊎ ((new.transcript ≡ old.transcript ++ spent) × IsUnmade c new.transcript execution f call out))

-- the places of what is told rise
abbrev pub ArePlacesRising : List LineOutcome → Type 0
ArePlacesRising [] = Unit {0}
ArePlacesRising (t ∷ ts) = All (λ (u : LineOutcome). t.place < u.place) ts × ArePlacesRising ts

-- all that is told is of lines before a place
abbrev pub ArePlacesBelow : ℕ → List LineOutcome → Type 0
ArePlacesBelow k told = All (λ (t : LineOutcome). t.place < k) told

-- each line of this name before a place is told of
abbrev pub AreToldBelow : List Line → List ℕ → ℕ → List LineOutcome → Type 0
AreToldBelow lines name k told =
    (place : ℕ) (l : Line) (call : Call) → place < k → slice_get lines place ≡ Some l → l.command ≡ command.Federate name call → (t : LineOutcome) × Contains told t × (t.place ≡ place)

-- all records of a caller in the history answer what it told of lines of this name, in turn: those of a federate that has joined under it, in
-- the execution of the script
pub record IsCallerInTurn (c : CatalogueValue) (lines : List Line) (history : List Record) (name : List ℕ) (caller : Caller) (told : List LineOutcome) : Type 0 where
  pub execution : List ℕ
  pub named : execution ≡ codes "play"
  pub federate : ℕ
  pub joined : HasJoined history execution name federate
  pub agrees : Agrees history caller
  pub rising : ArePlacesRising told
  pub below : ArePlacesBelow (length lines) told
  pub in_turn : AreAnsweredInTurn c lines [] execution federate name caller.transcript told

-- what is told of the lines of this name is what such a caller told
pub record IsNameInTurn (c : CatalogueValue) (lines : List Line) (history : List Record) (outcomes : List (Option Outcome)) (name : List ℕ) : Type 0 where
  pub caller : Caller
  pub told : List LineOutcome
  pub own : IsCallerInTurn c lines history name caller told
  pub tells : (place : ℕ) (l : Line) (call : Call) (o : Outcome) → slice_get lines place ≡ Some l → l.command ≡ command.Federate name call → slice_index_or outcomes place None ≡ Some o → Contains told (record { place = place; outcome = o })

-- of lines of federates the same is told as before, or nothing was told of them and nothing is
abbrev pub KeepsCalls : List Line → List (Option Outcome) → List (Option Outcome) → Type 0
KeepsCalls lines old new =
    (place : ℕ) (l : Line) (name : List ℕ) (call : Call) (o : Outcome) → slice_get lines place ≡ Some l → l.command ≡ command.Federate name call → slice_index_or new place None ≡ Some o → slice_index_or old place None ≡ Some o

-- ---- federates and what they leave behind
-- what is told of a line is told of a call of the federate of this name, as these records of the federate answer
abbrev pub IsOwnTelling : CatalogueValue → List Line → List Record → List ℕ → ℕ → List ℕ → LineOutcome → Type 0
IsOwnTelling c lines records execution f name t = (call : Call) × IsCallAt lines t.place name call × IsCallRecorded c records execution f call t.outcome

abbrev pub AreOwnTellings : CatalogueValue → List Line → List Record → List ℕ → ℕ → List ℕ → List LineOutcome → Type 0
AreOwnTellings c lines records execution f name told = All (IsOwnTelling c lines records execution f name) told

-- while it is joined it is this federate of the execution, and where it is gone, that has resigned by its own records
abbrev pub IsPlayerAs : {L B P H : Type 0} → List ℕ → ℕ → Player L B P H → Type 0
IsPlayerAs execution f (player.Joined m) = (m.execution ≡ execution) × (m.federate ≡ f)
IsPlayerAs execution f (player.Gone l) = IsResignedBy l.caller.transcript execution f

-- what a federate's life tells is told of its own lines, and is in its own transcript
abbrev pub IsLifeRecorded : {L B P H : Type 0} → CatalogueValue → List Line → List ℕ → Life L B P H → Type 0
IsLifeRecorded c lines execution life =
    IsPlayerAs execution life.number life.player × AreOwnTellings c lines (caller_of life.player).transcript execution life.number life.name life.told.items
    × ((life.lacks_memory ≡ true) ⊎ AreAnsweredInTurn c lines [] execution life.number life.name (caller_of life.player).transcript life.told.items)

-- a federate has told of each of its lines before a place, in their order, unless it lacks memory
abbrev pub IsToldTo : {L B P H : Type 0} → List Line → ℕ → Life L B P H → Type 0
IsToldTo lines k life = ArePlacesRising life.told.items × ArePlacesBelow k life.told.items × ((life.lacks_memory ≡ true) ⊎ AreToldBelow lines life.name k life.told.items)

-- it is the life of the same federate
abbrev pub IsLifeOf : {L B P H : Type 0} → Life L B P H → Life L B P H → Type 0
IsLifeOf old new = (new.name ≡ old.name) × (new.number ≡ old.number)

-- what a life has become once it has done its lines
pub record HasLived {L B P H : Type 0} (c : CatalogueValue) (lines : List Line) (old new : Life L B P H) : Type 0 where
  pub same : IsLifeOf old new  -- of the same federate
  pub recorded : (execution : List ℕ) → IsLifeRecorded c lines execution old → IsLifeRecorded c lines execution new
  pub told : IsToldTo lines 0 old → IsToldTo lines (length lines) new

-- a life that tells nothing yet, and has done nothing
abbrev pub IsFresh : {L B P H : Type 0} → List ℕ → Life L B P H → Type 0
IsFresh execution life = IsPlayerAs execution life.number life.player × (life.told.items ≡ []) × ((caller_of life.player).transcript ≡ [])

abbrev pub AreFresh : {L B P H : Type 0} → List ℕ → List (Life L B P H) → Type 0
AreFresh execution lives = All (IsFresh execution) lives

-- one of the lives has this name
abbrev pub has_life : {L B P H : Type 0} → List (Life L B P H) → List ℕ → Bool
has_life {L = L} {B = B} {P = P} {H = H} lives name = list_any (λ (life : Life L B P H). bytes_eq life.name name) lives

-- nobody has joined under this name
abbrev pub is_stranger : {L B P H : Type 0} → List (Life L B P H) → List ℕ → Bool
is_stranger lives name = not (has_life lives name)

-- who is told to have joined by what a command asks for is one of the lives
abbrev pub HasLifeOf : {L B P H : Type 0} → List (Life L B P H) → Command → Outcome → Type 0
HasLifeOf lives asked out = (name : List ℕ) (f : ℕ) → asked ≡ command.Join name → out ≡ outcome.Done (answer.Federate f) → has_life lives name ≡ true

-- the same of all lines that are told of
abbrev pub HasEachLife : {L B P H : Type 0} → List Line → List (Life L B P H) → List (Option Outcome) → Type 0
HasEachLife lines lives outcomes = (place : ℕ) (l : Line) (o : Outcome) → slice_get lines place ≡ Some l → slice_index_or outcomes place None ≡ Some o → HasLifeOf lives l.command o

-- nothing is told of any line
abbrev pub AreNotTold : List (Option Outcome) → Type 0
AreNotTold outcomes = (place : ℕ) → slice_index_or outcomes place None ≡ None

-- whoever is among the lives stays there
abbrev pub KeepsLives : {L B P H : Type 0} → List (Life L B P H) → List (Life L B P H) → Type 0
KeepsLives old new = (name : List ℕ) → has_life old name ≡ true → has_life new name ≡ true

-- by the records each has joined under its name, and has its number
abbrev pub AreJoined : {L B P H : Type 0} → List Record → List ℕ → List (Life L B P H) → Type 0
AreJoined records execution lives = All (λ life. HasJoined records execution life.name life.number) lives

-- the caller has added records to its transcript, or none
abbrev pub HasExtended : Caller → Caller → Type 0
HasExtended old new = (more : List Record) × (new.transcript ≡ old.transcript ++ more)

-- each record of these transcripts is one of the history
abbrev pub IsTranscriptIn : List Record → List Record → Type 0
IsTranscriptIn history transcript = (r : Record) → Contains transcript r → Contains history r

abbrev pub AreTranscriptsIn : List Record → List Leaver → Type 0
AreTranscriptsIn history lefts = All (λ (l : Leaver). IsTranscriptIn history l.caller.transcript) lefts

-- these transcripts are just their callers' records of the history
abbrev pub AgreeAll : List Record → List Leaver → Type 0
AgreeAll history lefts = All (λ (l : Leaver). Agrees history l.caller) lefts

-- a caller's transcript is left behind with the others
abbrev pub LeavesBehind : List Leaver → Caller → List Leaver → Type 0
LeavesBehind old c new =
    (history : List Record) → (AreTranscriptsIn history new → AreTranscriptsIn history old × IsTranscriptIn history c.transcript) × (AgreeAll history new → AgreeAll history old × Agrees history c)

-- this caller's transcript is left behind with the others, and a courier's
abbrev pub LeavesPair : List Leaver → Caller → List Leaver → Type 0
LeavesPair old c new = (first : Leaver) × (second : Leaver) × (new ≡ (old ++ first ∷ []) ++ second ∷ []) × (first.caller ≡ c) × All IsExchange second.caller.transcript

-- what is told of a line needs no record
abbrev pub NeedsNoRecord : (List ℕ → Bool) → Command → Outcome → Type 0
NeedsNoRecord stranger command out = (c : CatalogueValue) (records : List Record) → IsLineRecorded c records stranger command out

-- what is told of lines stays recorded
abbrev pub KeepsRecorded : List Line → (List ℕ → Bool) → List (Option Outcome) → List (Option Outcome) → Type 0
KeepsRecorded lines stranger old new = (c : CatalogueValue) (history : List Record) → AreOutcomesRecorded c lines history stranger old → AreOutcomesRecorded c lines history stranger new

-- what is told of lines stays recorded, by what the infrastructure did itself until now
abbrev pub KeepsOffice : List Line → Caller → List (Option Outcome) → List (Option Outcome) → Type 0
KeepsOffice lines own old new =
    (c : CatalogueValue) (history : List Record) (stranger : List ℕ → Bool) → IsTranscriptIn history own.transcript → AreOutcomesRecorded c lines history stranger old → AreOutcomesRecorded c lines history stranger new

-- a line is told as what the infrastructure did itself answers
abbrev pub IsOfficeLine : Caller → Command → Outcome → Type 0
IsOfficeLine own command out = (c : CatalogueValue) (stranger : List ℕ → Bool) → IsLineRecorded c own.transcript stranger command out

-- what lives told was added to what was told before, and they left their transcripts behind
abbrev pub GathersRecorded : {L B P H : Type 0} → List (Life L B P H) → List Leaver → List (Option Outcome) → List (Option Outcome) → Type 0
GathersRecorded lives lefts old new =
    (c : CatalogueValue) (lines : List Line) (execution : List ℕ) (history : List Record) (stranger : List ℕ → Bool) → All (IsLifeRecorded c lines execution) lives → AreJoined history execution lives → AreTranscriptsIn history lefts
    → AreOutcomesRecorded c lines history stranger old → AreOutcomesRecorded c lines history stranger new

-- what lives told was of lines of their own, and of none that creates or joins
abbrev pub GathersCalls : {L B P H : Type 0} → List (Life L B P H) → List (Option Outcome) → List (Option Outcome) → Type 0
GathersCalls lives old new = (c : CatalogueValue) (lines : List Line) (execution : List ℕ) → All (IsLifeRecorded c lines execution) lives → KeepsOpenings lines old new

-- what lives told of their lines is answered in turn, by what they left behind
abbrev pub GathersInTurn : {L B P H : Type 0} → List (Life L B P H) → List Leaver → List (Option Outcome) → Type 0
GathersInTurn lives lefts new =
    (c : CatalogueValue) (lines : List Line) (execution : List ℕ) (history : List Record) → execution ≡ codes "play" → All (IsLifeRecorded c lines execution) lives → All (IsToldTo lines (length lines)) lives → AreJoined history execution lives
    → AreTranscriptsIn history lefts → AgreeAll history lefts → (name : List ℕ) → has_life lives name ≡ true → IsNameInTurn c lines history new name

-- whose records these are is known: a federate's, which answer its lines in turn, or a courier's
abbrev pub IsCallerKnown : CatalogueValue → List Line → List Record → Caller → Type 0
IsCallerKnown c lines history caller = ((name : List ℕ) × (told : List LineOutcome) × IsCallerInTurn c lines history name caller told) ⊎ All IsExchange caller.transcript

-- of all that was left behind it is known whose it is
abbrev pub GathersCallers : {L B P H : Type 0} → List (Life L B P H) → List Leaver → Type 0
GathersCallers lives lefts =
    (c : CatalogueValue) (lines : List Line) (execution : List ℕ) (history : List Record) → execution ≡ codes "play" → All (IsLifeRecorded c lines execution) lives → All (IsToldTo lines (length lines)) lives → AreJoined history execution lives
    → AreTranscriptsIn history lefts → AgreeAll history lefts → All (λ (l : Leaver). IsCallerKnown c lines history l.caller) lefts

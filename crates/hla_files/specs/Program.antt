-- How playing, checking and listing end, and the lines that tell why one stopped
use Rattle.std.specs.Prelude.{◌≡◌, ℕ, true, false, ◌⊎◌, List, ◌++◌, length, take, Option, None, Some, codes, decimal}
use Rattle.std.specs.Io.KnownBytes.{Appends}
use Rattle.hla_fed_file.specs.Fault.{kind_name_of}
use Rattle.hla_fed_file.specs.declared.fault.FedFault.{FedFault}
use Rattle.hla_commands.specs.FaultName.{kind_name}
use Rattle.hla_transcript.specs.Listed.{IsListed, StopsListing}
use Rattle.hla_stage.specs.Playing.{IsPlayedFrom, IsPlayedWhole, StopsBy}
use Rattle.hla_stage.specs.Following.{FollowNext}
use Rattle.hla_commands.specs.declared.lines.ScriptFault.{ScriptFault}
use Rattle.hla_machine.specs.declared.step.Record.{Record}
use Rattle.hla_checker.specs.Faults.{IsWholeRun, IsRunUpTo, IsNoStep}
use Rattle.hla_monitor.specs.declared.status.Status.{Status}
use Rattle.hla_transcript.specs.declared.listing.ListFault.{ListFault}
use Rattle.hla_transcript.specs.declared.listing.ListFault.TheVariants as unlisted
use Rattle.hla_stage.specs.declared.player.PlayFault.{PlayFault}
use Rattle.hla_stage.specs.declared.player.PlayFault.TheVariants as unplayed
use Rattle.hla_outcomes.specs.declared.fault.RunFault.{RunFault}
use Rattle.hla_outcomes.specs.declared.fault.RunFault.TheVariants as unran
use Rattle.hla_files.specs.declared.finding.Finding.{Finding}
use Rattle.hla_files.specs.declared.finding.Finding.TheVariants.{Run, Differs}
use Rattle.hla_files.specs.Texts.{AreRead, IsFirstUnread, IsTakenOf, IsStoppedOf, file_limit}
use Rattle.hla_transcript.specs.Watching.{Stream}
use Rattle.hla_files.specs.declared.input.LoadFault.{LoadFault}
use Rattle.hla_files.specs.declared.input.LoadFault.TheVariants as unread

-- ---- the line on standard error
abbrev pub fault_line : List ℕ → ℕ → List ℕ → List ℕ
fault_line file line kind = file ++ codes " line " ++ decimal line ++ codes ": " ++ kind ++ codes "\n"

abbrev pub fed_line : FedFault → List ℕ
fed_line e = fault_line (codes "fed") e.line (kind_name_of e.kind)

abbrev pub script_line : ScriptFault → List ℕ
script_line e = fault_line (codes "script") e.line (kind_name e.kind)

abbrev pub unread_line : List ℕ → List ℕ
unread_line name = codes "cannot read " ++ name ++ codes "\n"

abbrev pub unwritten_line : List ℕ
unwritten_line = codes "cannot write\n"

abbrev pub memory_line : List ℕ
memory_line = codes "out of memory\n"

abbrev pub transcripts_line : List ℕ
transcripts_line = codes "transcripts differ\n"

abbrev pub monitor_line : List ℕ
monitor_line = codes "monitor differs\n"

-- a line was written whole; or a write of it failed, and a beginning of it stands
pub data WritesLine (old new : Stream) (line : List ℕ) : Type 0 where
  Whole : Appends old.bytes new.bytes line → new.has_failed ≡ old.has_failed → WritesLine old new line
  Cut : (n : ℕ) → Appends old.bytes new.bytes (take n line) → new.has_failed ≡ true → WritesLine old new line

-- a line that takes memory was told, or that there is none for it
abbrev pub Complains : Stream → Stream → List ℕ → Type 0
Complains old new line = WritesLine old new line ⊎ WritesLine old new memory_line

-- it was told why a script was not played to its end. Only the line of a fault in a text takes memory
abbrev pub TellsPlayStop : PlayFault → Stream → Stream → Type 0
TellsPlayStop (unplayed.Fed e) old new = Complains old new (fed_line e)
TellsPlayStop (unplayed.Script e) old new = Complains old new (script_line e)
TellsPlayStop unplayed.Write old new = WritesLine old new unwritten_line
TellsPlayStop unplayed.Memory old new = WritesLine old new memory_line

-- it was told why a script was not run to its end
abbrev pub TellsRunStop : RunFault → Stream → Stream → Type 0
TellsRunStop (unran.Fed e) old new = Complains old new (fed_line e)
TellsRunStop (unran.Script e) old new = Complains old new (script_line e)
TellsRunStop unran.Write old new = WritesLine old new unwritten_line
TellsRunStop unran.Memory old new = WritesLine old new memory_line
TellsRunStop (unran.Close e) old new = WritesLine old new transcripts_line
TellsRunStop unran.Monitor old new = WritesLine old new monitor_line
TellsRunStop unran.Ambassadors old new = WritesLine old new memory_line

-- the status of a script that was not run to its end: transcripts or counts that differ have their own
abbrev pub run_stop_status : RunFault → ℕ
run_stop_status (unran.Fed e) = 1
run_stop_status (unran.Script e) = 1
run_stop_status unran.Write = 1
run_stop_status unran.Memory = 1
run_stop_status (unran.Close e) = 3
run_stop_status unran.Monitor = 3
run_stop_status unran.Ambassadors = 1

-- it was told why a FED file was not listed
abbrev pub TellsListStop : ListFault → Stream → Stream → Type 0
TellsListStop (unlisted.Fed e) old new = Complains old new (fed_line e)
TellsListStop unlisted.Write old new = WritesLine old new unwritten_line
TellsListStop unlisted.Memory old new = WritesLine old new memory_line

-- it was told why a file of this name was not read; a line with a name in it takes memory
abbrev pub TellsLoadStop : List ℕ → LoadFault → Stream → Stream → Type 0
TellsLoadStop name unread.Read old new = Complains old new (unread_line name)
TellsLoadStop name unread.Memory old new = WritesLine old new memory_line

-- a failed write is the cause where one is told
abbrev pub PlayCause : PlayFault → Stream → Type 0
PlayCause (unplayed.Fed e) out = Unit {0}
PlayCause (unplayed.Script e) out = Unit {0}
PlayCause unplayed.Write out = out.has_failed ≡ true
PlayCause unplayed.Memory out = Unit {0}

abbrev pub ListCause : ListFault → Stream → Type 0
ListCause (unlisted.Fed e) out = Unit {0}
ListCause unlisted.Write out = out.has_failed ≡ true
ListCause unlisted.Memory out = Unit {0}

-- ---- given the bytes
-- `out` and `out'` are the standard output before and after, `err` and `err'` the standard error

-- a script is played over a FED file: the records of what it printed follow the next-state function, and are a run of the machine
pub data EndsPlaying (fed script : List ℕ) (out out' err err' : Stream) (status : ℕ) : Type 0 where
  Played : (records : List Record) → IsPlayedFrom fed script out.bytes out'.bytes records → FollowNext records → IsWholeRun records → out'.has_failed ≡ false → err' ≡ err → status ≡ 0 → EndsPlaying fed script out out' err err' status
  PlayStopped : (why : PlayFault) → StopsBy false fed script out.bytes out'.bytes why → PlayCause why out' → TellsPlayStop why err err' → status ≡ 1 → EndsPlaying fed script out out' err err' status

-- ---- what the central machine says of a script's records
-- the records that a script over a FED file makes, whatever its transcript is written to: no line ran out of memory, and they follow
-- the next-state function
abbrev pub HasRecords : List ℕ → List ℕ → List Record → Type 0
HasRecords fed script records = IsPlayedWhole fed script None None records × FollowNext records

-- why there are none: as why it is not played, but that no write fails
abbrev pub StopsCheck : List ℕ → List ℕ → PlayFault → Type 0
StopsCheck fed script unplayed.Write = ⊥
StopsCheck fed script why = StopsBy true fed script None None why

-- so many records are a run of the machine; that one is no step of it is never found
abbrev pub IsFound : List ℕ → List ℕ → Finding → Type 0
IsFound fed script (Run count) = (records : List Record) × HasRecords fed script records × IsWholeRun records × (count ≡ length records)
IsFound fed script (Differs place) = ⊥

-- of any records: so many are a run of the machine, or the first at this place is no step of it
abbrev pub IsVerdict : List Record → Finding → Type 0
IsVerdict records (Run count) = IsWholeRun records × (count ≡ length records)
IsVerdict records (Differs place) = IsRunUpTo records place IsNoStep

abbrev pub finding_line : Finding → List ℕ
finding_line (Run count) = codes "ok " ++ decimal count ++ codes "\n"
finding_line (Differs place) = codes "differs " ++ decimal place ++ codes "\n"

abbrev pub finding_status : Finding → ℕ
finding_status (Run count) = 0
finding_status (Differs place) = 3

-- what was found, and behind it the steps and the grants that a monitor read last, where one watched
abbrev pub finding_text : Finding → Option Status → List ℕ
finding_text finding None = finding_line finding
finding_text finding (Some s) = finding_line finding ++ codes "monitor " ++ decimal s.steps ++ codes " " ++ decimal s.grants ++ codes "\n"

-- a text is told, and then the status is the wanted one
pub data EndsTelling (text : List ℕ) (wanted : ℕ) (out out' err err' : Stream) (status : ℕ) : Type 0 where
  Told : Appends out.bytes out'.bytes text → out'.has_failed ≡ false → err' ≡ err → status ≡ wanted → EndsTelling text wanted out out' err err' status
  Unwritten : (n : ℕ) → Appends out.bytes out'.bytes (take n text) → out'.has_failed ≡ true → WritesLine err err' unwritten_line → status ≡ 1 → EndsTelling text wanted out out' err err' status
  Untold : out' ≡ out → WritesLine err err' memory_line → status ≡ 1 → EndsTelling text wanted out out' err err' status

-- a script is played over a FED file, and its records are judged: so many are a run of the machine
pub data EndsChecking (fed script : List ℕ) (out out' err err' : Stream) (status : ℕ) : Type 0 where
  Checked : (records : List Record) → HasRecords fed script records → IsWholeRun records → EndsTelling (finding_line (Run (length records))) 0 out out' err err' status → EndsChecking fed script out out' err err' status
  CheckStopped : (why : PlayFault) → StopsCheck fed script why → out' ≡ out → TellsPlayStop why err err' → status ≡ 1 → EndsChecking fed script out out' err err' status

-- a FED file is listed
pub data EndsListing (fed : List ℕ) (out out' err err' : Stream) (status : ℕ) : Type 0 where
  Listed : IsListed fed out.bytes out'.bytes → out'.has_failed ≡ false → err' ≡ err → status ≡ 0 → EndsListing fed out out' err err' status
  ListStopped : (why : ListFault) → StopsListing fed out.bytes out'.bytes why → ListCause why out' → TellsListStop why err err' → status ≡ 1 → EndsListing fed out out' err err' status

-- ---- given the bytes of each file by its name
-- what is to be done with a FED file and a script is done, by their names; or one of them was not read
pub data EndsNamed (bytes_of : List ℕ → Option (List ℕ)) (Ends : List ℕ → List ℕ → Type 0) (fed_name script_name : List ℕ) (out out' err err' : Stream) (status : ℕ) : Type 0 where
  TextsRead : (fed script : List ℕ) → AreRead bytes_of fed_name script_name fed script → Ends fed script → EndsNamed bytes_of Ends fed_name script_name out out' err err' status
  TextUnread : (name : List ℕ) (why : LoadFault) → IsFirstUnread bytes_of fed_name script_name name why → out' ≡ out → TellsLoadStop name why err err' → status ≡ 1 → EndsNamed bytes_of Ends fed_name script_name out out' err err' status

-- a script is played over a FED file, by their names
abbrev pub EndsPlayingNamed : (List ℕ → Option (List ℕ)) → List ℕ → List ℕ → Stream → Stream → Stream → Stream → ℕ → Type 0
EndsPlayingNamed bytes_of fed script out out' err err' status = EndsNamed bytes_of (λ f s. EndsPlaying f s out out' err err' status) fed script out out' err err' status

-- the records of a script are judged, by the names of both files
abbrev pub EndsCheckingNamed : (List ℕ → Option (List ℕ)) → List ℕ → List ℕ → Stream → Stream → Stream → Stream → ℕ → Type 0
EndsCheckingNamed bytes_of fed script out out' err err' status = EndsNamed bytes_of (λ f s. EndsChecking f s out out' err err' status) fed script out out' err err' status

-- a FED file is listed, by its name; or it was not read
pub data EndsListingNamed (bytes_of : List ℕ → Option (List ℕ)) (name : List ℕ) (out out' err err' : Stream) (status : ℕ) : Type 0 where
  FileRead : (bytes : List ℕ) → IsTakenOf file_limit (bytes_of name) bytes → EndsListing bytes out out' err err' status → EndsListingNamed bytes_of name out out' err err' status
  FileUnread : (why : LoadFault) → IsStoppedOf (bytes_of name) why → out' ≡ out → TellsLoadStop name why err err' → status ≡ 1 → EndsListingNamed bytes_of name out out' err err' status

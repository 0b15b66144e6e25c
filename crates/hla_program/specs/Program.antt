-- How a task ends
use Rattle.std.specs.Prelude.{◌≡◌, ℕ, Bool, true, List, length, Option}
use Rattle.hla_machine.specs.declared.step.Record.{Record}
use Rattle.hla_checker.specs.Faults.{IsWholeRun}
use Rattle.hla_transcript.specs.Watching.{Stream}
use Rattle.hla_monitor.specs.declared.status.Status.{Status}
use Rattle.hla_outcomes.specs.Joining.{script_joins}
use Rattle.hla_outcomes.specs.Running.{IsRunFrom, IsSeen, StopsRun}
use Rattle.hla_outcomes.specs.declared.fault.RunFault.{RunFault}
use Rattle.hla_outcomes.specs.declared.fault.RunFault.TheVariants as unran
use Rattle.hla_run.specs.Accounted.{IsRunRecorded}
use Rattle.hla_tasks.specs.Tasks.{NamedTask, Play, Check, Running, Listing}
use Rattle.hla_files.specs.declared.finding.Finding.TheVariants.{Run}
use Rattle.hla_files.specs.Program.{WritesLine, memory_line, TellsRunStop, run_stop_status, EndsTelling, finding_text, EndsPlaying, EndsChecking, EndsNamed, EndsListingNamed}

-- a failed write is the cause where one is told
abbrev pub RunCause : RunFault → Stream → Type 0
RunCause (unran.Fed e) out = Unit {0}
RunCause (unran.Script e) out = Unit {0}
RunCause unran.Write out = out.has_failed ≡ true
RunCause unran.Memory out = Unit {0}
RunCause (unran.Close e) out = Unit {0}
RunCause unran.Monitor out = Unit {0}
RunCause unran.Ambassadors out = Unit {0}

-- `out` and `out'` are the standard output before and after, `err` and `err'` the standard error

-- that so many records are a run of the machine is told, and what a monitor read last; or there was no memory to judge them
pub data EndsJudging (count : ℕ) (seen : Option Status) (out out' err err' : Stream) (status : ℕ) : Type 0 where
  Judged : EndsTelling (finding_text (Run count) seen) 0 out out' err err' status → EndsJudging count seen out out' err err' status
  Unjudged : out' ≡ out → WritesLine err err' memory_line → status ≡ 1 → EndsJudging count seen out out' err err' status

-- what a monitor read is at fault only where one was to watch
abbrev pub IsWatchedWhere : RunFault → Bool → Type 0
IsWatchedWhere why is_watched = why ≡ unran.Monitor → is_watched ≡ true

-- a script is run over a FED file, each federate on a thread: how its lines came out is written, of federates' lines that were done as
-- records answer, and behind it the number of the records, which are a run of the machine, and what a monitor read last; there is an
-- ambassador for each line that joins, so that too few of them never stop it
pub data EndsRunning (is_watched : Bool) (fed script : List ℕ) (out out' err err' : Stream) (status : ℕ) : Type 0 where
  Ran : (told : Stream) → IsRunFrom fed script out.bytes told.bytes → told.has_failed ≡ out.has_failed → (records : List Record) → IsWholeRun records → IsRunRecorded records fed script out.bytes told.bytes → (seen : Option Status) → IsSeen is_watched records seen
      → EndsJudging (length records) seen told out' err err' status → EndsRunning is_watched fed script out out' err err' status
  RunStopped : (why : RunFault) → StopsRun fed script (script_joins script) out.bytes out'.bytes why → IsWatchedWhere why is_watched → RunCause why out' → TellsRunStop why err err' → status ≡ run_stop_status why → EndsRunning is_watched fed script out out' err err' status

-- what is asked for is done with the files that it names
abbrev pub EndsTask : (List ℕ → Option (List ℕ)) → NamedTask → Stream → Stream → Stream → Stream → ℕ → Type 0
EndsTask bytes_of (Play fed script) out out' err err' status = EndsNamed bytes_of (λ f s. EndsPlaying f s out out' err err' status) fed script out out' err err' status
EndsTask bytes_of (Check fed script) out out' err err' status = EndsNamed bytes_of (λ f s. EndsChecking f s out out' err err' status) fed script out out' err err' status
EndsTask bytes_of (Running fed script is_watched) out out' err err' status = EndsNamed bytes_of (λ f s. EndsRunning is_watched f s out out' err err' status) fed script out out' err err' status
EndsTask bytes_of (Listing fed) out out' err err' status = EndsListingNamed bytes_of fed out out' err err' status

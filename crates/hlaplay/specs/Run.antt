-- How a run of the program ends
use Rattle.std.specs.Prelude.{◌≡◌, ℕ, false, List, Option, Some, None}
use Rattle.clap.specs.Kinds.{IsAmong}
use Rattle.clap.specs.Walk.{Text}
use Rattle.clap.specs.declared.error.kind.ErrorKind.{ErrorKind}
use Rattle.hla_transcript.specs.Watching.{Stream}
use Rattle.hla_tasks.specs.Tasks.{NamedTask}
use Rattle.hla_files.specs.Program.{WritesLine, memory_line}
use Rattle.hla_program.specs.Program.{EndsTask}
use Rattle.hla_command_line.specs.Words.{plain_task, faults_in, task_of}

-- `out` and `out'` are the standard output before and after, `err` and `err'` the standard error

-- one text is told, with status 2; or there is no memory for it
pub data EndsMisuse (err err' : Stream) (status : ℕ) : Type 0 where
  RefusalTold : (text : Text) → WritesLine err err' text → status ≡ 2 → EndsMisuse err err' status
  RefusalUntold : WritesLine err err' memory_line → status ≡ 1 → EndsMisuse err err' status

-- given the words of a command line: what they ask for is done. Only words of no plain form may end otherwise, with nothing on the
-- standard output: where clap finds a fault in them, or where memory runs out
pub data EndsRun (words : List Text) (bytes_of : List ℕ → Option (List ℕ)) (out out' err err' : Stream) (status : ℕ) : Type 0 where
  TaskDone : (task : NamedTask) → task_of words ≡ Some task → EndsTask bytes_of task out out' err err' status → EndsRun words bytes_of out out' err err' status
  Misused : plain_task words ≡ None → (fault : ErrorKind) → IsAmong fault (faults_in words) → out' ≡ out → EndsMisuse err err' status → EndsRun words bytes_of out out' err err' status
  NoMemory : plain_task words ≡ None → out' ≡ out → WritesLine err err' memory_line → status ≡ 1 → EndsRun words bytes_of out out' err err' status

-- the run of some words, over files of which nothing is known and a standard output that has not failed before
pub record EndsSomeRun (err err' : Stream) (status : ℕ) : Type 0 where
  pub words : List Text
  pub out : Stream
  pub out' : Stream
  pub sound : out.has_failed ≡ false
  pub ends : EndsRun words (λ _. None) out out' err err' status

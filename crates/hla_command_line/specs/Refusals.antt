-- Why the words of a command line ask for nothing
use Rattle.std.specs.Prelude.{◌≡◌, ◌≢◌, List, None}
use Rattle.clap.specs.Kinds.{IsAmong}
use Rattle.clap.specs.Values.{kind_of}
use Rattle.clap.specs.Walk.{Text}
use Rattle.clap.specs.declared.error.Error.{Error}
use Rattle.clap.specs.declared.error.kind.ErrorKind.TheVariants.{OutOfMemory}
use Rattle.hla_command_line.specs.Words.{plain_task, faults_in}
use Rattle.hla_command_line.specs.declared.words.WordsFault.{WordsFault}
use Rattle.hla_command_line.specs.declared.words.WordsFault.TheVariants.{Refused, Memory}

-- an error of clap is handed on, unless it says that memory ran out
abbrev pub IsCausedBy : Error → WordsFault → Type 0
IsCausedBy error (Refused refused) = (refused ≡ error) × (kind_of error ≢ OutOfMemory)
IsCausedBy error Memory = kind_of error ≡ OutOfMemory

-- a refusal is for what clap finds in the words
abbrev pub IsFoundIn : List Text → WordsFault → Type 0
IsFoundIn words (Refused error) = IsAmong (kind_of error) (faults_in words)
IsFoundIn words Memory = Unit {0}

-- words of a plain form never end so
abbrev pub RefusesWords : List Text → WordsFault → Type 0
RefusesWords words fault = (plain_task words ≡ None) × IsFoundIn words fault

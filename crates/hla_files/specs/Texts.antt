-- A FED file and a script, read by their names
use Rattle.std.specs.Prelude.{◌≡◌, ◌+◌, ◌&&◌, ◌⊎◌, ℕ, Bool, false, List, Option, MatchBool, codes}
use Rattle.std.specs.Str.{bytes_eq}
use Rattle.hla_base.specs.Limits.{max_fed_file, max_script}
use Rattle.hla_transcript.specs.Watching.{Stream}
use Rattle.hla_files.specs.Parts.{first_part, second_part}
use Rattle.hla_files.specs.Streams.{IsTaken, LoadStops}
use Rattle.hla_files.specs.declared.input.LoadFault.{LoadFault}
use Rattle.hla_files.specs.declared.reading.Texts.{Texts}
use Rattle.hla_files.specs.declared.reading.Texts.TheVariants.{Apart, Shared}

abbrev pub fed_in : Texts → List ℕ
fed_in (Apart fed script) = fed.items
fed_in (Shared input) = first_part input.items

abbrev pub script_in : Texts → List ℕ
script_in (Apart fed script) = script.items
script_in (Shared input) = second_part input.items

-- one byte more is taken of a file than it may have, so that one that has more is too large
abbrev pub file_limit : ℕ
file_limit = max_fed_file + 1

-- of both files in one input, and the line between them
abbrev pub shared_limit : ℕ
shared_limit = max_fed_file + max_script + 4

-- a file that was just opened
abbrev pub opened_stream : Option (List ℕ) → Stream
opened_stream bytes = record { bytes = bytes; has_failed = false }

-- these bytes were taken of a file, given all of its bytes where they are known
abbrev pub IsTakenOf : ℕ → Option (List ℕ) → List ℕ → Type 0
IsTakenOf limit known bytes = (left : Stream) × IsTaken limit (opened_stream known) left bytes

-- why such a file was not read
abbrev pub IsStoppedOf : Option (List ℕ) → LoadFault → Type 0
IsStoppedOf known why = (left : Stream) × LoadStops (opened_stream known) left why

-- both files stand in one input, which is told by the name `-`: the first part of it is the FED file, and the second the script
abbrev pub AreReadShared : Option (List ℕ) → List ℕ → List ℕ → Type 0
AreReadShared known fed script = (bytes : List ℕ) × IsTakenOf shared_limit known bytes × (fed ≡ first_part bytes) × (script ≡ second_part bytes)

-- `-` is the standard input, which holds both files where both names are `-`
abbrev pub share_input : List ℕ → List ℕ → Bool
share_input fed_name script_name = bytes_eq fed_name (codes "-") && bytes_eq script_name (codes "-")

-- given the bytes of each file by its name, the FED file and the script of these names were read
abbrev pub AreRead : (List ℕ → Option (List ℕ)) → List ℕ → List ℕ → List ℕ → List ℕ → Type 0
AreRead bytes_of fed_name script_name fed script = MatchBool (share_input fed_name script_name)
    (AreReadShared (bytes_of (codes "-")) fed script)
    (IsTakenOf file_limit (bytes_of fed_name) fed × IsTakenOf file_limit (bytes_of script_name) script)

-- the file of this name is the first that was not read, and why
abbrev pub IsFirstUnread : (List ℕ → Option (List ℕ)) → List ℕ → List ℕ → List ℕ → LoadFault → Type 0
IsFirstUnread bytes_of fed_name script_name name why = MatchBool (share_input fed_name script_name)
    ((name ≡ codes "-") × IsStoppedOf (bytes_of (codes "-")) why)
    (((name ≡ fed_name) × IsStoppedOf (bytes_of fed_name) why)
    ⊎ ((name ≡ script_name) × ((fed : List ℕ) × IsTakenOf file_limit (bytes_of fed_name) fed) × IsStoppedOf (bytes_of script_name) why))

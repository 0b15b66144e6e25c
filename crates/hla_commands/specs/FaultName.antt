-- The names of a script's faults
use Rattle.std.specs.Prelude.{ℕ, List, codes}
use Rattle.hla_commands.specs.declared.lines.ScriptFaultKind.{ScriptFaultKind}
use Rattle.hla_commands.specs.declared.lines.ScriptFaultKind.TheVariants as kind

abbrev pub kind_name : ScriptFaultKind → List ℕ
kind_name kind.BadByte = codes "BadByte"
kind_name kind.UnknownWord = codes "UnknownWord"
kind_name kind.MissingWord = codes "MissingWord"
kind_name kind.ExtraWord = codes "ExtraWord"
kind_name kind.BadNumber = codes "BadNumber"
kind_name kind.BadWord = codes "BadWord"
kind_name kind.TooLarge = codes "TooLarge"
kind_name kind.OutOfMemory = codes "OutOfMemory"

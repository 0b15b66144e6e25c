-- The names of faults, and how they are printed
use Rattle.std.specs.Prelude.{ℕ, List, ◌++◌, codes}
use Rattle.std.specs.Fmt.{decimal}
use Rattle.hla_fed_file.specs.declared.fault.FedFault.{FedFault}
use Rattle.hla_fed_file.specs.declared.fault.FedFaultKind.{FedFaultKind}
use Rattle.hla_fed_file.specs.declared.fault.FedFaultKind.TheVariants.{UnexpectedEnd, BadByte, ExpectedOpen, UnknownKeyword, ExpectedName, ExpectedClose, TrailingText, TooLarge, OutOfMemory}

-- the name of a kind of fault, as it is printed
abbrev pub kind_name_of : FedFaultKind → List ℕ
kind_name_of UnexpectedEnd = codes "UnexpectedEnd"
kind_name_of BadByte = codes "BadByte"
kind_name_of ExpectedOpen = codes "ExpectedOpen"
kind_name_of UnknownKeyword = codes "UnknownKeyword"
kind_name_of ExpectedName = codes "ExpectedName"
kind_name_of ExpectedClose = codes "ExpectedClose"
kind_name_of TrailingText = codes "TrailingText"
kind_name_of TooLarge = codes "TooLarge"
kind_name_of OutOfMemory = codes "OutOfMemory"

-- a fault as it is printed: its line and its kind
abbrev pub fed_fault_text : FedFault → List ℕ
fed_fault_text e = codes "line " ++ decimal e.line ++ codes ": " ++ kind_name_of e.kind

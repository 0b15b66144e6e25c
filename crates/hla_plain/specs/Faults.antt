-- Faults of FED files as plain data
use Rattle.std.specs.Prelude.{ℕ}
use Rattle.hla_base.specs.declared.fault.Fault.{Fault}
use Rattle.hla_base.specs.declared.fault.Fault.TheVariants as fault
use Rattle.hla_fed_file.specs.declared.fault.FedFault.{FedFault}
use Rattle.hla_fed_file.specs.declared.fault.FedFaultKind.{FedFaultKind}
use Rattle.hla_fed_file.specs.declared.fault.FedFaultKind.TheVariants as kind
use Rattle.hla_plain.specs.declared.data.FedFaultData.{FedFaultData}

-- kinds are counted from 1
abbrev pub kind_number : FedFaultKind → ℕ
kind_number kind.UnexpectedEnd = 1
kind_number kind.BadByte = 2
kind_number kind.ExpectedOpen = 3
kind_number kind.UnknownKeyword = 4
kind_number kind.ExpectedName = 5
kind_number kind.ExpectedClose = 6
kind_number kind.TrailingText = 7
kind_number kind.TooLarge = 8
kind_number kind.OutOfMemory = 9

abbrev pub fed_fault_data : FedFault → FedFaultData
fed_fault_data f = record { line = f.line; kind = kind_number f.kind }

-- why no execution is created
abbrev pub fault_of_fed : FedFaultKind → Fault
fault_of_fed kind.OutOfMemory = fault.OutOfMemory
fault_of_fed k = fault.ErrorReadingFED

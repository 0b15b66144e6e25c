-- Where a list of records ceases to be a run, and how that is printed
use Rattle.std.specs.Prelude.{ℕ, ◌≡◌, List, ◌++◌, codes, take, slice_get, Some}
use Rattle.std.specs.Fmt.{decimal}
use Rattle.hla_machine.specs.declared.step.Record.{Record}
use Rattle.hla_machine.specs.Runs.{Executions, no_executions, AllowedAct, AreRun}
use Rattle.hla_checker.specs.declared.checking.CheckFault.{CheckFault}
use Rattle.hla_checker.specs.declared.checking.CheckFault.TheVariants.{Place, Memory}

-- the records are a run of all executions, from none
abbrev pub IsWholeRun : List Record → Type 0
IsWholeRun rs = (y : Executions) × AreRun no_executions rs y

-- the records before this place are a run, and P says something of the one at this place after them
abbrev pub IsRunUpTo : List Record → ℕ → (Executions → Record → Type 0) → Type 0
IsRunUpTo rs place P = (y : Executions) × (r : Record) × AreRun no_executions (take place rs) y × (slice_get rs place ≡ Some r) × P y r

abbrev pub IsNoStep : Executions → Record → Type 0
IsNoStep y r = AllowedAct y r.execution r.act r.outcome r.choice → ⊥

-- the first record that is no step of the machine
abbrev pub TellsFault : List Record → CheckFault → Type 0
TellsFault rs (Place place) = IsRunUpTo rs place IsNoStep
TellsFault rs Memory = Unit {0}

-- a fault as it is printed
abbrev pub check_fault_text : CheckFault → List ℕ
check_fault_text (Place place) = codes "the record at place " ++ decimal place ++ codes " is no step of the machine"
check_fault_text Memory = codes "OutOfMemory"

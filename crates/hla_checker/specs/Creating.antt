-- Why an execution is not created, in the order of the tests
use Rattle.std.specs.Prelude.{ℕ, ltb, not, ◌||◌, Bool, Option, [], ◌∷◌}
use Rattle.hla_base.specs.Limits.{max_executions, max_creates}
use Rattle.hla_base.specs.declared.fault.Fault.{Fault}
use Rattle.hla_base.specs.declared.fault.Fault.TheVariants as fault
use Rattle.hla_base.specs.RowRefusals.{first_fault, test_for}

-- by whether it is there, and whether its file was read; how many were created, and are present
abbrev pub creation_tests : Bool → Bool → ℕ → ℕ → Option Fault
creation_tests there read creates present = first_fault
    (test_for fault.FederationExecutionAlreadyExists there
    ∷ test_for fault.ErrorReadingFED (not read)
    ∷ test_for fault.LimitReached (not (ltb present max_executions) || not (ltb creates max_creates))
    ∷ [])

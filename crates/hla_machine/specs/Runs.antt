-- Runs of the machine, of one execution and of all executions by name (HLA 1.3, federation management)
use Rattle.std.specs.Prelude.{ℕ, ◌+◌, ◌≡◌, ◌-◌, cond, ltb, not, ◌||◌, Bool, Option, Some, None, is_some, List, [], ◌∷◌}
use Rattle.std.specs.List.{list_any}
use Rattle.std.specs.Str.{bytes_eq}
use Rattle.hla_base.specs.Limits.{max_executions, max_creates}
use Rattle.hla_base.specs.declared.fault.Fault.{Fault}
use Rattle.hla_base.specs.declared.fault.Fault.TheVariants as fault
use Rattle.hla_base.specs.Tables.{numbers_below}
use Rattle.hla_catalogue.specs.CatalogueValue.{CatalogueValue}
use Rattle.hla_machine.specs.declared.step.Step.{Step}
use Rattle.hla_machine.specs.declared.step.Act.{Act}
use Rattle.hla_machine.specs.declared.step.Act.TheVariants as act
use Rattle.hla_machine.specs.declared.step.Answer.TheVariants as answer
use Rattle.hla_machine.specs.declared.step.Outcome.{Outcome}
use Rattle.hla_machine.specs.declared.step.Outcome.TheVariants as outcome
use Rattle.hla_machine.specs.declared.step.Choice.{Choice}
use Rattle.hla_machine.specs.declared.step.Choice.TheVariants as choice
use Rattle.hla_machine.specs.declared.step.Record.{Record}
use Rattle.hla_machine.specs.Central.{Central, new_central}
use Rattle.hla_machine.specs.Machine.{Allowed, after}
use Rattle.hla_base.specs.RowRefusals.{test_for, first_fault}

-- ---- one execution
-- one step, how it ended, and what it chose
pub record Happening : Type 0 where
  pub step : Step
  pub outcome : Outcome
  pub choice : Choice

-- the machine allows the step, and new is the state after it
pub record IsMachineStep (old : Central) (h : Happening) (new : Central) : Type 0 where
  pub allowed : Allowed old h.step h.outcome h.choice
  pub follows : new ≡ after old h.step h.outcome h.choice

-- one step after another leads from c to d
abbrev pub IsRun : Central → List Happening → Central → Type 0
IsRun c [] d = c ≡ d
IsRun c (h ∷ hs) d = Allowed c h.step h.outcome h.choice × IsRun (after c h.step h.outcome h.choice) hs d

-- ---- all executions
pub record Executions : Type 0 where
  pub creates : ℕ  -- how many were ever created
  pub present : ℕ  -- how many there are now
  pub execution : List ℕ → Option Central

abbrev pub no_executions : Executions
no_executions = record { creates = 0; present = 0; execution = λ _. None }

abbrev pub set_execution : Executions → List ℕ → Option Central → List ℕ → Option Central
set_execution x name c = λ other. cond (bytes_eq name other) c (x.execution other)

-- Create Federation Execution, max_executions at a time and max_creates in all
abbrev pub create_fault : Executions → List ℕ → Option CatalogueValue → Option Fault
create_fault x name catalogue = first_fault
    (test_for fault.FederationExecutionAlreadyExists (is_some (x.execution name))
    ∷ test_for fault.ErrorReadingFED (not (is_some catalogue))
    ∷ test_for fault.LimitReached (not (ltb x.present max_executions) || not (ltb x.creates max_creates))
    ∷ [])

abbrev pub is_joined_by_any : Central → Bool
is_joined_by_any c = list_any c.directory.joined (numbers_below c.directory.next_federate)

-- Destroy Federation Execution
abbrev pub destroy_fault : Option Central → Option Fault
destroy_fault None = Some fault.FederationExecutionDoesNotExist
destroy_fault (Some c) = first_fault (test_for fault.FederatesCurrentlyJoined (is_joined_by_any c) ∷ [])

abbrev pub EndsAs : Option Fault → Outcome → Type 0
EndsAs None out = out ≡ outcome.Done answer.Done
EndsAs (Some e) out = out ≡ outcome.Refused e

abbrev pub AllowedIn : Option Central → Step → Outcome → Choice → Type 0
AllowedIn None step out o = (out ≡ outcome.Refused fault.FederationExecutionDoesNotExist) × (o ≡ choice.None)
AllowedIn (Some c) step out o = Allowed c step out o

abbrev pub AllowedAct : Executions → List ℕ → Act → Outcome → Choice → Type 0
AllowedAct x name (act.Create catalogue) out o = EndsAs (create_fault x name catalogue) out × (o ≡ choice.None)
AllowedAct x name act.Destroy out o = EndsAs (destroy_fault (x.execution name)) out × (o ≡ choice.None)
AllowedAct x name (act.Step step) out o = AllowedIn (x.execution name) step out o

abbrev pub after_create : Executions → List ℕ → Option CatalogueValue → Executions
after_create x name None = x
after_create x name (Some catalogue) = record { creates = x.creates + 1; present = x.present + 1; execution = set_execution x name (Some (new_central catalogue)) }

abbrev pub after_destroy : Executions → List ℕ → Executions
after_destroy x name = record { creates = x.creates; present = x.present - 1; execution = set_execution x name None }

abbrev pub after_step_in : Executions → List ℕ → Option Central → Step → Outcome → Choice → Executions
after_step_in x name None step out o = x
after_step_in x name (Some c) step out o = record { creates = x.creates; present = x.present; execution = set_execution x name (Some (after c step out o)) }

abbrev pub after_act : Executions → List ℕ → Act → Outcome → Choice → Executions
after_act x name (act.Create catalogue) (outcome.Done a) o = after_create x name catalogue
after_act x name act.Destroy (outcome.Done a) o = after_destroy x name
after_act x name (act.Step step) out o = after_step_in x name (x.execution name) step out o
after_act x name act out o = x

-- the records are a run of the executions from x to y
abbrev pub AreRun : Executions → List Record → Executions → Type 0
AreRun x [] y = x ≡ y
AreRun x (r ∷ rs) y = AllowedAct x r.execution r.act r.outcome r.choice × AreRun (after_act x r.execution r.act r.outcome r.choice) rs y

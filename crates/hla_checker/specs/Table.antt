-- What is kept of all executions, by name
use Rattle.std.specs.Prelude.{ℕ, ◌≡◌, List, find, Option, option_map}
use Rattle.std.specs.List.{All}
use Rattle.std.specs.Str.{bytes_eq}
use Rattle.hla_machine.specs.declared.step.Act.{Act}
use Rattle.hla_machine.specs.declared.step.Outcome.{Outcome}
use Rattle.hla_machine.specs.declared.step.Choice.{Choice}
use Rattle.hla_machine.specs.Central.{Central}
use Rattle.hla_machine.specs.Runs.{Executions, AllowedAct, after_act}
use Rattle.hla_checker.specs.declared.table.NamedExecution.{NamedExecution}
use Rattle.hla_checker.specs.declared.table.ExecutionTable.{ExecutionTable}
use Rattle.hla_verdicts.specs.declared.verdict.Verdict.{Verdict}
use Rattle.hla_verdicts.specs.Verdicts.{Judged}
use Rattle.hla_verdicts.specs.Kept.{central_of, IsConsistent}

-- the state of one of them; what it is made of stays hidden where many are kept
unfoldable pub central_named : NamedExecution → Central
central_named x = central_of x.execution

-- which state a name means
abbrev pub centrals_of : List NamedExecution → List ℕ → Option Central
centrals_of xs = λ name. option_map central_named (find (λ (x : NamedExecution). bytes_eq name x.name) xs)

abbrev pub executions_of : ExecutionTable → Executions
executions_of t = record { creates = t.creates; present = t.present; execution = centrals_of t.executions.items }

abbrev pub AreConsistent : List NamedExecution → Type 0
AreConsistent xs = All (λ (x : NamedExecution). IsConsistent x.execution) xs

-- what a test tells of an act, where the second table is kept after it
abbrev pub JudgedAct : ExecutionTable → List ℕ → Act → Outcome → Choice → ExecutionTable → Verdict → Type 0
JudgedAct old name a out o new verdict =
    Judged (AllowedAct (executions_of old) name a out o) ((executions_of new ≡ after_act (executions_of old) name a out o) × AreConsistent new.executions.items) verdict

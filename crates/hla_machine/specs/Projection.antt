-- What the records of all executions say of one of them
use Rattle.std.specs.Prelude.{ℕ, cond, Option, Some, None, List, [], ◌∷◌, ◌++◌}
use Rattle.std.specs.Str.{bytes_eq}
use Rattle.hla_catalogue.specs.CatalogueValue.{CatalogueValue}
use Rattle.hla_machine.specs.declared.step.Act.{Act}
use Rattle.hla_machine.specs.declared.step.Act.TheVariants as act
use Rattle.hla_machine.specs.declared.step.Outcome.{Outcome}
use Rattle.hla_machine.specs.declared.step.Outcome.TheVariants as outcome
use Rattle.hla_machine.specs.declared.step.Choice.{Choice}
use Rattle.hla_machine.specs.declared.step.Record.{Record}
use Rattle.hla_machine.specs.Central.{Central, new_central}
use Rattle.hla_machine.specs.Runs.{Happening, IsRun, Executions, no_executions, AreRun}

-- with what an execution was created, and what has happened in it since
pub record Story : Type 0 where
  pub catalogue : CatalogueValue
  pub happenings : List Happening

-- the story after one act more in that execution; none where it is not there
abbrev pub story_with : Option Story → Act → Outcome → Choice → Option Story
story_with o (act.Create (Some catalogue)) (outcome.Done a) c = Some (record { catalogue = catalogue; happenings = [] })
story_with o act.Destroy (outcome.Done a) c = None
story_with (Some s) (act.Step step) out c = Some (record { catalogue = s.catalogue; happenings = s.happenings ++ record { step = step; outcome = out; choice = c } ∷ [] })
story_with o a out c = o

abbrev pub story_after : List ℕ → Option Story → Record → Option Story
story_after name o r = cond (bytes_eq r.execution name) (story_with o r.act r.outcome r.choice) o

-- what records say of the execution with a name, from this story on
abbrev pub story_of : List ℕ → Option Story → List Record → Option Story
story_of name o [] = o
story_of name o (r ∷ rs) = story_of name (story_after name o r) rs

-- the story is a run of the machine from a new execution, and leads to the state that is there
abbrev pub TellsOf : Option Story → Option Central → Type 0
TellsOf None None = Unit {0}
TellsOf (Some s) (Some c) = IsRun (new_central s.catalogue) s.happenings c
TellsOf o x = ⊥

-- records that are a run of all executions are, cut to one of them from its creation on, a run of it
abbrev pub EachExecutionIsARun : Type 0
EachExecutionIsARun = (records : List Record) (x : Executions) (name : List ℕ) → AreRun no_executions records x → TellsOf (story_of name None records) (x.execution name)

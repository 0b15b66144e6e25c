-- What is to be done, with the files by their names
use Rattle.std.specs.Prelude.{ℕ, Bool, List}
use Rattle.hla_tasks.specs.declared.task.Task.{Task}
use Rattle.hla_tasks.specs.declared.task.Task.TheVariants as task

-- to play a script over a FED file, to check it, to run it on threads (perhaps with a monitor beside), or to list a FED file
pub data NamedTask : Type 0 where
  Play : (fed script : List ℕ) → NamedTask
  Check : (fed script : List ℕ) → NamedTask
  Running : (fed script : List ℕ) (is_watched : Bool) → NamedTask
  Listing : (fed : List ℕ) → NamedTask

abbrev pub named_task : Task → NamedTask
named_task (task.Play fed script) = Play fed.now script.now
named_task (task.Check fed script) = Check fed.now script.now
named_task (task.Run fed script is_watched) = Running fed.now script.now is_watched
named_task (task.List fed) = Listing fed.now

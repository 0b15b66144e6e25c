-- What all records keep, execution by execution
use Rattle.std.specs.Prelude.{ℕ, ◌≡◌, Some, None, List, ◌++◌}
use Rattle.hla_machine.specs.declared.step.Record.{Record}
use Rattle.hla_machine.specs.Central.{new_central}
use Rattle.hla_machine.specs.Runs.{Executions, no_executions, AreRun}
use Rattle.hla_machine.specs.Projection.{Story, story_of}
use Rattle.hla_machine.specs.Lawful.{IsLawful}
use Rattle.hla_machine.specs.Discovered.{IsDiscoveredInTurn}

-- behind each of the records, what they say of each execution that is there is lawful from its creation on
abbrev pub AreLawful : List Record → Type 0
AreLawful records = (before rest : List Record) (name : List ℕ) (s : Story) → records ≡ before ++ rest → story_of name None before ≡ Some s → IsLawful (new_central s.catalogue) s.happenings

-- and each of its federates is given the discovery of an object before anything is said of it, and once
abbrev pub AreDiscoveredInTurn : List Record → Type 0
AreDiscoveredInTurn records = (before rest : List Record) (name : List ℕ) (s : Story) → records ≡ before ++ rest → story_of name None before ≡ Some s → IsDiscoveredInTurn (new_central s.catalogue) s.happenings

-- records that are a run of all executions are lawful
abbrev pub EachHistoryIsLawful : Type 0
EachHistoryIsLawful = (records : List Record) (x : Executions) → AreRun no_executions records x → AreLawful records

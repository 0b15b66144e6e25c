-- The records so far are a run, and its state is kept.
use Rattle.std.proofs.Common.{take}
use Rattle.hla_machine.specs.Runs.{AreRun, no_executions}
use Rattle.hla_checker.specs.Table.{AreConsistent, executions_of}
use Rattle.hla_checker.proofs.checking.check_run.Given as goal

abbrev pub invariant-loop-place : goal.invariant-loop-place
invariant-loop-place l = AreRun no_executions (take l.place l.records) (executions_of l.table) × AreConsistent l.table.executions.items

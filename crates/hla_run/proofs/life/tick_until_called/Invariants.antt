use Rattle.std.proofs.Common.{◌≡◌, List, ◌++◌, length, None}
use Rattle.hla_machine.specs.declared.step.Answer.TheVariants as answer
use Rattle.hla_machine.specs.declared.step.Record.{Record}
use Rattle.hla_machine.specs.declared.step.Outcome.TheVariants as outcome
use Rattle.hla_run.specs.Recorded.{AddsTicks, AreEmptyTicks, max_line_ticks}
use Rattle.hla_run.proofs.life.tick_until_called.Given as goal

-- the federate is the same, and each tick that gave nothing is in its transcript
abbrev pub invariant-loop-tick : goal.invariant-loop-tick
invariant-loop-tick g l = record {
  execution : l.federate.execution ≡ l.initial.federate.execution;
  federate : l.federate.federate ≡ l.initial.federate.federate;
  spent : (spent : List Record) × AreEmptyTicks l.initial.federate.execution l.initial.federate.federate spent × (length spent ≡ l._tick) × (l.federate.caller.transcript ≡ l.initial.federate.caller.transcript ++ spent);
  added : l._tick ≡ max_line_ticks → AddsTicks l.initial.federate.execution l.initial.federate.federate (outcome.Done (answer.Ticked None)) l.initial.federate.caller l.federate.caller;
}

use Rattle.std.proofs.Common.{List, length, ◌+◌}
use Rattle.hla_machine.specs.declared.step.Record.{Record}
use Rattle.hla_callers.specs.Callers.{Office}
use Rattle.hla_in_order.specs.Turns.{IsSet, HaveLeft}
use Rattle.hla_in_order.proofs.in_order.Cast.leave.Given as goal

abbrev pub invariant-loop-slot : goal.invariant-loop-slot
invariant-loop-slot g l = (rs : List Record) (office : Office) → IsSet rs office l.fn.self → HaveLeft rs l.lefts.items 1 (length l.yielded + 2)

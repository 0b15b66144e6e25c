use Rattle.std.proofs.Common.{◌≡◌}
use Rattle.hla_catalogue.specs.declared.declared.Order.TheVariants.{Receive, Timestamp}
use Rattle.hla_machine.specs.Directory.{values_of_order}
use Rattle.hla_verdicts.specs.Kept.{directory_of}
use Rattle.hla_checker.proofs.kept.KeptExecution.split.Given as goal

-- those of each order among the values so far
abbrev pub invariant-loop-value : goal.invariant-loop-value
invariant-loop-value l =
    (goal.iterator-loop-value).can_next l.value-iterator × (goal.iterator-loop-value).is_finite l.value-iterator
    × (l.received ≡ values_of_order (directory_of l.self) l.object Receive l.yielded) × (l.stamped ≡ values_of_order (directory_of l.self) l.object Timestamp l.yielded)

use Rattle.std.proofs.Common.{◌≡◌, ◌+◌, ◌≤◌, drop}
use Rattle.hla_outcomes.specs.Joining.{joins}
use Rattle.hla_outcomes.proofs.joining.joins.Given as goal

abbrev pub invariant-loop-line : goal.invariant-loop-line
invariant-loop-line l = (l.count + joins (drop l.line-index l.script) ≡ joins l.fn.script) × (l.count ≤ l.line-index)

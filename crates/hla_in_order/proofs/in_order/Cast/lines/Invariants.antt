use Rattle.std.proofs.Common.{◌≤◌, length, take, drop}
use Rattle.hla_outcomes.specs.Joining.{joins}
use Rattle.hla_in_order.specs.Turns.{HaveLed}
use Rattle.hla_in_order.proofs.in_order.Cast.lines.Given as goal

abbrev pub invariant-loop-line : goal.invariant-loop-line
invariant-loop-line g l =
    (joins (drop l.line-index l.lines) ≤ length l.self.ambassadors)
    × HaveLed l.catalogue l.fed (take l.line-index l.lines) l.outcomes l.rti l.self

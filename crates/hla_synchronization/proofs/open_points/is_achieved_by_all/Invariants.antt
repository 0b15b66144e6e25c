-- So far those below a number have achieved it.
use Rattle.std.proofs.Common.{◌≡◌, filter}
use Rattle.std.specs.List.{list_all}
use Rattle.hla_base.specs.Tables.{numbers_below}
use Rattle.hla_base.specs.FederateSets.{federate_set}
use Rattle.hla_synchronization.proofs.open_points.is_achieved_by_all.Given as goal

abbrev pub invariant-loop-federate : goal.invariant-loop-federate
invariant-loop-federate l = l.by_all ≡ list_all (federate_set l.point.achieved) (filter (federate_set l.members) (numbers_below l.federate))

-- So far those that were passed are told to close, where all have achieved them.
use Rattle.std.proofs.Common.{◌≡◌, take, map}
use Rattle.hla_synchronization.specs.Points.{closing, closing_of}
use Rattle.hla_synchronization.specs.OpenPoints.{points_of, members_in}
use Rattle.hla_synchronization.proofs.open_points.closings_of.Given as goal

abbrev pub invariant-loop-point : goal.invariant-loop-point
invariant-loop-point l = l.notices.items ≡ map closing_of (closing (members_in l.members) (points_of (take l.point-index l.points)))

-- So far those that were passed are announced.
use Rattle.std.proofs.Common.{◌≡◌, take, map}
use Rattle.hla_synchronization.specs.Points.{announcement_of}
use Rattle.hla_synchronization.specs.OpenPoints.{points_of}
use Rattle.hla_synchronization.proofs.open_points.announcements_of.Given as goal

abbrev pub invariant-loop-point : goal.invariant-loop-point
invariant-loop-point l = l.notices.items ≡ map announcement_of (points_of (take l.point-index l.points))

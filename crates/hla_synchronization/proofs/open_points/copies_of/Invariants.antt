-- So far those that were passed are copied.
use Rattle.std.proofs.Common.{◌≡◌, take}
use Rattle.hla_synchronization.proofs.open_points.copies_of.Given as goal

abbrev pub invariant-loop-point : goal.invariant-loop-point
invariant-loop-point l = l.copies.items ≡ take l.point-index l.points

-- The open points as the code keeps them
use Rattle.std.specs.Prelude.{ℕ, ◌+◌, Bool, List, filter, map}
use Rattle.hla_base.specs.Limits.{max_joins}
use Rattle.hla_base.specs.Tables.{numbers_below}
use Rattle.hla_base.specs.FederateSets.{federate_set}
use Rattle.hla_synchronization.specs.declared.open_points.OpenPoint.{OpenPoint}
use Rattle.hla_synchronization.specs.Points.{Point}

-- a point as it is kept, and all of them, in order of opening
abbrev pub point_of : OpenPoint → Point
point_of p = record { label = p.label; announced = federate_set p.announced; achieved = federate_set p.achieved }

abbrev pub points_of : List OpenPoint → List Point
points_of points = map point_of points

-- the federates of a set, by rising number
abbrev pub members_in : ℕ → List ℕ
members_in set = filter (federate_set set) (numbers_below (max_joins + 1))

-- The examples of the same name, each by computation
use Rattle.std.proofs.Common.{refl}
use Rattle.hla_base.specs.Tables.{upd, upd2, upd_row, upd_column, upd_new, upd_whole_column, least, greatest, numbers_below}
use Rattle.hla_components.specs.Examples.Points.{Synchronization, SynchronizationWithResignation, PointsAndMembership, PointsThatOneLeavingCloses}

pub synchronization : Synchronization
unfolding upd upd2 upd_row upd_column upd_new upd_whole_column least greatest numbers_below
synchronization = refl

pub synchronization_with_resignation : SynchronizationWithResignation
unfolding upd upd2 upd_row upd_column upd_new upd_whole_column least greatest numbers_below
synchronization_with_resignation = refl

pub points_and_membership : PointsAndMembership
unfolding upd upd2 upd_row upd_column upd_new upd_whole_column least greatest numbers_below
points_and_membership = refl

pub points_that_one_leaving_closes : PointsThatOneLeavingCloses
unfolding upd upd2 upd_row upd_column upd_new upd_whole_column least greatest numbers_below
points_that_one_leaving_closes = refl

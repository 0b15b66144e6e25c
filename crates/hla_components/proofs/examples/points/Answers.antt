use Rattle.hla_components.proofs.Computed.Points.{synchronization, synchronization_with_resignation, points_and_membership, points_that_one_leaving_closes}
use Rattle.hla_components.proofs.examples.points.Goals as goal

pub returns : goal.returns
returns c = record { synchronization = synchronization; synchronization_with_resignation = synchronization_with_resignation; points_and_membership = points_and_membership; points_that_one_leaving_closes = points_that_one_leaving_closes }

-- The first point with the label is changed, if there is one.
use Rattle.std.proofs.Common.{◌∙◌, ap}
use Rattle.hla_synchronization.specs.Points.{announced_to}
use Rattle.hla_synchronization.specs.OpenPoints.{point_of}
use Rattle.hla_synchronization.proofs.PointLemmas.{changed_found, unchanged_missed}
use Rattle.hla_synchronization.proofs.open_points.announce_among.Goals as goal

pub returns-in-Some : goal.returns-in-Some
returns-in-Some c = changed_found (announced_to c.args.federate) c.args.label.now c.args.points.now.items c.in-Some.place c.index_mut.result.now _
    (rw (← c.deref.ensures.value) c.in-Some.ensures) c.index_mut.ensures.value (ap (λ t. record (point_of c.index_mut.result.now) { announced = t }) c.add.ensures)

pub returns-in_default : goal.returns-in_default
returns-in_default c = unchanged_missed (announced_to c.args.federate) c.args.label.now c.args.points.now.items (rw (← c.deref.ensures.value) c.in_default.ensures)

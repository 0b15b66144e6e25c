-- The first point with the label decides.
use Rattle.std.proofs.Common.{◌∙◌, rules, Some, None}
use Rattle.hla_synchronization.proofs.PointLemmas.{may_achieve_as}
use Rattle.hla_synchronization.proofs.open_points.OpenPoints.may_achieve.Goals as goal

pub returns-then-has : goal.returns-then-has
returns-then-has c = search rules ∙ may_achieve_as c.args.federate c.args.label.now c.args.self.now (Some c.in-Some.point.now) (search rules)

pub returns-else-has : goal.returns-else-has
returns-else-has c = search rules ∙ may_achieve_as c.args.federate c.args.label.now c.args.self.now (Some c.in-Some.point.now) (search rules)

pub returns-in-None : goal.returns-in-None
returns-in-None c = may_achieve_as c.args.federate c.args.label.now c.args.self.now None (search rules)

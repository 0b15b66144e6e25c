-- The first point with the label is found, if there is one.
use Rattle.std.proofs.Common.{◌∙◌, rules, is_some}
use Rattle.hla_synchronization.proofs.PointLemmas.{is_open_as}
use Rattle.hla_synchronization.proofs.open_points.OpenPoints.is_open.Goals as goal

pub returns : goal.returns
returns c = c.is_some.ensures ∙ is_open_as c.args.label.now c.args.self.now (λ p. p.now) c.point_labelled.result (search rules)

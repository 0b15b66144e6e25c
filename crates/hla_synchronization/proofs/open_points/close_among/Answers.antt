-- The test is the same of rows and of the points that they are read as.
use Rattle.std.proofs.Common.{Bool, not, rules, ap, ◌∙◌}
use Rattle.std.proofs.lemmas.Fn.{filter_same}
use Rattle.hla_synchronization.specs.declared.open_points.OpenPoint.{OpenPoint}
use Rattle.hla_synchronization.specs.Points.{Point, is_achieved_by_all}
use Rattle.hla_synchronization.specs.OpenPoints.{point_of, points_of, members_in}
use Rattle.hla_synchronization.proofs.PointLemmas.{filtered_as}
use Rattle.hla_synchronization.proofs.open_points.close_among.Goals as goal

pub returns : goal.returns
returns c =
    let is_left : Point → Bool = λ p. not (is_achieved_by_all (members_in c.args.members) p) in
    ap points_of (filter_same _ (λ (p : OpenPoint). is_left (point_of p)) _ (λ p b f called. search rules) _ _ c.retain.ensures.filtered)
    ∙ filtered_as is_left c.args.points.now.items

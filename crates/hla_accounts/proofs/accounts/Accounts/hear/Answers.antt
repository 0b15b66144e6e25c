-- Only an announcement changes a point.
use Rattle.std.proofs.Common.{◌≡◌, ℕ, List, rules, sym, ap, ◌∙◌}
use Rattle.std.specs.Bool.{Decides}
use mathlib.Core.Bool.{false≢true}
use Rattle.hla_base.specs.declared.notice.NoticeKind.TheVariants as kind
use Rattle.hla_synchronization.specs.Points.{Point, with_point, announced_to, points_after_notice}
use Rattle.hla_synchronization.specs.OpenPoints.{points_of}
use Rattle.hla_machine.specs.Directory.{with_points}
use Rattle.hla_accounts.proofs.AfterSteps.Points.{heard_points, heard_as}
use Rattle.hla_accounts.proofs.accounts.Accounts.hear.Goals as goal
use Rattle.hla_accounts.proofs.accounts.Accounts.hear.Goals.{then-eq, else-eq}

tests : (c : goal.After-take_notice) → Decides c.eq.result (c.args.notice.now.kind ≡ kind.Announced)
tests c = search rules

points_heard : (c : goal.After-take_notice) → points_of c.if-eq.points ≡ points_after_notice c.args.federate c.args.notice.now (points_of c.args.points.now)
points_heard c = let n = c.args.notice.now in elim c.if-eq.branch [
  | then-eq w ↦ heard_points c.args.federate n c.eq.result (points_of c.args.points.now) (points_of c.if-eq.points) (tests c)
      (λ is. ap points_of w.points-is ∙ w.announce.ensures ∙ ap (λ (l : List ℕ). with_point (announced_to c.args.federate) l (points_of c.args.points.now)) w.as_slice.ensures)
      (λ is. absurd (false≢true (sym is ∙ w.if-eq.true)))
  | else-eq w ↦ heard_points c.args.federate n c.eq.result (points_of c.args.points.now) (points_of c.if-eq.points) (tests c)
      (λ is. absurd (false≢true (sym w.if-eq.false ∙ is))) (λ is. ap points_of w.points-is)
]

pub returns : goal.returns
returns c d at = heard_as d c.args.self.now c.take_notice.new.self c.args.federate c.args.notice.now (points_of c.if-eq.points)
    (points_heard c ∙ ap (λ (ps : List Point). points_after_notice c.args.federate c.args.notice.now ps) (sym at)) (c.take_notice.ensures (with_points d (points_of c.if-eq.points)))

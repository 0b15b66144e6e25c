-- Where the point was achieved, points close.
use Rattle.std.proofs.Common.{◌≡◌, List, refl, sym, ap, ◌∙◌}
use Rattle.hla_synchronization.specs.Points.{Point, with_point, achieved_by}
use Rattle.hla_synchronization.specs.OpenPoints.{points_of}
use Rattle.hla_machine.specs.Directory.{with_points}
use Rattle.hla_machine.specs.Machine.{with_points_closed}
use Rattle.hla_accounts.specs.Accounts.{central_with}
use Rattle.hla_accounts.proofs.AfterSteps.Counts.{on_ok}
use Rattle.hla_accounts.proofs.accounts.Accounts.achieve_point.Goals as goal

pub returns-clause-ok : goal.returns-clause-ok
returns-clause-ok c = on_ok c.close_points.result (λ closed d at.
    closed (with_points d (points_of c.achieve.new.self)) refl
    ∙ ap (λ (ps : List Point). with_points_closed (central_with (with_points d ps) c.args.self.now)) (c.achieve.ensures ∙ ap (λ (ps : List Point). with_point (achieved_by c.args.federate) c.args.label.now ps) (sym at))) c.close_points.ensures.ok

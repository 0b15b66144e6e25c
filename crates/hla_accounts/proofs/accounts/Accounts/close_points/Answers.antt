-- The members are those that are joined.
use Rattle.std.proofs.Common.{◌≡◌, List, map, sym, ap, ◌∙◌}
use Rattle.hla_synchronization.specs.Points.{Point, closing, closing_of, left_open}
use Rattle.hla_synchronization.specs.OpenPoints.{members_in, points_of}
use Rattle.hla_machine.specs.Directory.{with_points}
use Rattle.hla_accounts.proofs.AfterSteps.Points.{members_joined, closed_as}
use Rattle.hla_accounts.proofs.accounts.Accounts.close_points.Goals as goal

pub returns-clause-ok : goal.returns-clause-ok
returns-clause-ok c d at =
    let members = members_in c.members-members.result in
    closed_as d c.args.self.now c.tell_each_to_all.new.self members c.as_slice.result.now (points_of c.close.new.self)
    (members_joined d c.args.self.now c.members-members.result c.next_federate-next.ensures.kept.few c.members-members.ensures)
    (c.as_slice.ensures.value ∙ c.in_ok-notices.ensures.ok ∙ ap (λ (ps : List Point). map closing_of (closing members ps)) (sym at))
    (c.close.ensures ∙ ap (λ (ps : List Point). left_open members ps) (sym at))
    (c.in_ok-tell_each_to_all.ensures.ok (with_points d (points_of c.close.new.self)))

-- A point of the label is open, or one opens.
use Rattle.std.proofs.Common.{◌≡◌, ◌++◌, ◌∷◌, [], List, sym, ap, subst, ◌∙◌}
use Rattle.hla_synchronization.specs.Points.{Point, is_open, new_point}
use Rattle.hla_synchronization.specs.OpenPoints.{points_of}
use Rattle.hla_machine.specs.Directory.{with_points}
use Rattle.hla_machine.specs.Machine.{after_register_point}
use Rattle.hla_accounts.specs.Accounts.{central_with}
use Rattle.hla_accounts.proofs.AfterSteps.Points.{refused_as, opened_as}
use Rattle.hla_accounts.proofs.accounts.Accounts.register_point.Goals as goal

pub returns-in_ok-tell-clause-ok : goal.returns-in_ok-tell-clause-ok
returns-in_ok-tell-clause-ok c d at =
    subst (λ (ps : List Point). central_with (with_points d ps) c.tell.new.self ≡ after_register_point (central_with d c.args.self.now) c.args.federate c.args.label.now) at
    (refused_as d c.args.self.now c.tell.new.self c.args.federate c.args.label.now c.in_ok-shared.shared c.in_ok-shared.ensures.ok
    (ap (λ (ps : List Point). is_open c.args.label.now ps) at ∙ sym c.is_open.ensures ∙ c.if-is_open.true) (c.in_ok-tell.ensures.ok d))

pub returns-in_ok-open-clause-ok : goal.returns-in_ok-open-clause-ok
returns-in_ok-open-clause-ok c d at =
    opened_as d c.args.self.now c.tell_opening.new.self c.args.federate c.args.label.now c.in_ok-shared.shared (points_of c.open.new.self) c.in_ok-shared.ensures.ok
    (ap (λ (ps : List Point). is_open c.args.label.now ps) at ∙ sym c.is_open.ensures ∙ c.if-is_open.false)
    (c.in_ok-open.ensures.ok ∙ ap (λ (ps : List Point). ps ++ new_point c.in_ok-shared.shared ∷ []) (sym at))
    (c.in_ok-tell_opening.ensures.ok (with_points d (points_of c.open.new.self)))

use Rattle.std.proofs.Common.{ap, sym, subst, ◌∙◌}
use Rattle.hla_machine.specs.Machine.{after_leaving}
use Rattle.hla_verdicts.specs.Kept.{KeptValue, IsConsistent, central_of}
use Rattle.hla_checker.proofs.Verdicts.Deletions.{left_central, left_consistent, closed_central, closed_consistent}
use Rattle.hla_checker.proofs.kept.KeptExecution.remove_member.Goals as goal

pub returns-clause-left : goal.returns-clause-left
returns-clause-left c =
    let v : KeptValue = record { catalogue = c.self.inside.catalogue; declarations = c.self.inside.declarations; objects = c.self.inside.registry; accounts = c.self.inside.accounts; points = c.self.inside.points } in
    let w : KeptValue = record v { declarations = c.withdraw.new.self; objects = c.delete_owned_by.new.self; accounts = c.leave.new.self } in
    closed_central w c.close_points.new.self c.close_points.new.points c.in_ok-close_points.ensures.ok (central_of v) c.args.federate
    (left_central v c.withdraw.new.self c.delete_owned_by.new.self c.leave.new.self c.args.federate c.withdraw.ensures c.leave.ensures c.delete_owned_by.ensures)
    ∙ ap (λ (x : KeptValue). after_leaving (central_of x) c.args.federate) c.self.view_is

pub returns-clause-consistent : goal.returns-clause-consistent
returns-clause-consistent c =
    let v : KeptValue = record { catalogue = c.self.inside.catalogue; declarations = c.self.inside.declarations; objects = c.self.inside.registry; accounts = c.self.inside.accounts; points = c.self.inside.points } in
    let w : KeptValue = record v { declarations = c.withdraw.new.self; objects = c.delete_owned_by.new.self; accounts = c.leave.new.self } in
    closed_consistent w c.close_points.new.self c.close_points.new.points c.in_ok-close_points.ensures.ok
    (left_consistent v c.withdraw.new.self c.delete_owned_by.new.self c.leave.new.self c.args.federate c.withdraw.ensures c.leave.ensures
    (subst (λ (x : KeptValue). IsConsistent x) (sym c.self.view_is) c.requires.consistent))

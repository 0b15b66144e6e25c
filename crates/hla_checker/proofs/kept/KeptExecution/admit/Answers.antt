use Rattle.std.proofs.Common.{List, map, ap, sym, subst, ◌∙◌}
use Rattle.hla_synchronization.specs.Points.{Point, announcement_of}
use Rattle.hla_machine.specs.Machine.{after_join}
use Rattle.hla_verdicts.specs.Kept.{KeptValue, IsConsistent, central_of}
use Rattle.hla_checker.proofs.Verdicts.Joins.{joined_central, joined_consistent}
use Rattle.hla_checker.proofs.kept.KeptExecution.admit.Goals as goal

pub returns-clause-joined : goal.returns-clause-joined
returns-clause-joined c =
    let v : KeptValue = record { catalogue = c.self.inside.catalogue; declarations = c.self.inside.declarations; objects = c.self.inside.registry; accounts = c.self.inside.accounts; points = c.self.inside.points } in
    joined_central v c.admit.new.self c.join.new.self c.args.name.now c.in_ok-own.own c.in_ok-admit.ensures.ok (λ d at. c.in_ok-join.ensures.ok d (c.from_vec.ensures ∙ c.in_ok-notices.ensures.ok ∙ ap (λ (ps : List Point). map announcement_of ps) (sym at))) c.in_ok-own.ensures.ok
    ∙ ap (λ (x : KeptValue). after_join (central_of x) c.args.name.now) c.self.view_is

pub returns-clause-consistent : goal.returns-clause-consistent
returns-clause-consistent c =
    let v : KeptValue = record { catalogue = c.self.inside.catalogue; declarations = c.self.inside.declarations; objects = c.self.inside.registry; accounts = c.self.inside.accounts; points = c.self.inside.points } in
    joined_consistent v c.admit.new.self c.join.new.self c.args.name.now c.in_ok-own.own c.in_ok-admit.ensures.ok (λ d at. c.in_ok-join.ensures.ok d (c.from_vec.ensures ∙ c.in_ok-notices.ensures.ok ∙ ap (λ (ps : List Point). map announcement_of ps) (sym at)))
    (subst (λ (x : KeptValue). IsConsistent x) (sym c.self.view_is) c.requires.consistent)

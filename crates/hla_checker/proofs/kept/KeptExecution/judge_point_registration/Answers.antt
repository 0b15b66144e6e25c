use Rattle.std.proofs.Common.{◌≡◌, ℕ, List, refl, ap, ◌∙◌}
use Rattle.hla_base.specs.RowRefusals.{first_fault}
use Rattle.hla_machine.specs.Refusals.{call_tests}
use Rattle.hla_machine.specs.Machine.{central_seen, after_register_point}
use Rattle.hla_machine.specs.declared.service.Service.TheVariants as services
use Rattle.hla_accounts.specs.Accounts.{central_with}
use Rattle.hla_verdicts.specs.Kept.{KeptValue, central_of}
use Rattle.hla_checker.proofs.Verdicts.LookUps.{called_unchanged}
use Rattle.hla_checker.proofs.Verdicts.Points.{registration_only, called_among}
use Rattle.hla_checker.proofs.kept.KeptExecution.judge_point_registration.Goals as goal

pub returns-in-Some-clause-ok : goal.returns-in-Some-clause-ok
returns-in-Some-clause-ok c =
    let now = c.args.self.now in
    let x = services.RegisterFederationSynchronizationPoint c.args.label.now in
    let refused = c.point_registration_fault-fault.ensures ∙ ap (λ (l : List ℕ). first_fault (call_tests (central_seen (central_of now)) c.args.federate (services.RegisterFederationSynchronizationPoint l))) c.as_slice.ensures in
    called_unchanged now now c.args.federate x c.point_registration_fault-fault.result c.args.outcome.now c.args.choice.now c.in-Some.verdict refl c.requires.consistent c.requires.joined refused
    (c.in-Some.ensures (central_of now) c.args.federate x (λ o. (λ e. e, λ e. e)) (registration_only c.args.label.now))

pub returns-in_ok-register_point-in-None-clause-ok : goal.returns-in_ok-register_point-in-None-clause-ok
returns-in_ok-register_point-in-None-clause-ok c =
    let now = c.args.self.now in
    let x = services.RegisterFederationSynchronizationPoint c.args.label.now in
    let v : KeptValue = record { catalogue = c.self.inside.catalogue; declarations = c.self.inside.declarations; objects = c.self.inside.registry; accounts = c.self.inside.accounts; points = c.self.inside.points } in
    let refused = c.point_registration_fault-fault.ensures ∙ ap (λ (l : List ℕ). first_fault (call_tests (central_seen (central_of now)) c.args.federate (services.RegisterFederationSynchronizationPoint l))) c.as_slice.ensures in
    called_among v now c.register_point.new.self c.register_point.new.points c.args.federate x c.point_registration_fault-fault.result c.args.outcome.now c.args.choice.now c.self.view_is c.requires.consistent c.requires.joined refused c.in-None.ensures
    (λ o. (λ e. e, λ e. e)) tt (λ s. refl) (λ d at. c.in_ok-register_point-in-None.ensures.ok d at ∙ ap (λ (l : List ℕ). after_register_point (central_with d v.accounts) c.args.federate l) c.as_slice-in-None.ensures)

use Rattle.std.proofs.Common.{ℕ, List, Some, ◌∷◌, [], refl, ap, ◌∙◌}
use Rattle.hla_base.specs.RowRefusals.{first_fault}
use Rattle.hla_machine.specs.declared.service.Service.TheVariants as services
use Rattle.hla_machine.specs.Machine.{after_subscribe}
use Rattle.hla_machine.specs.Refusals.{no_attribute, no_object_class}
use Rattle.hla_verdicts.specs.Kept.{central_of, directory_of}
use Rattle.hla_verdicts.proofs.Steps.Calls.{joined_within}
use Rattle.hla_checker.proofs.Verdicts.Declarations.{class_within, done_judged}
use Rattle.hla_checker.proofs.Verdicts.LookUps.{called_unchanged}
use Rattle.hla_checker.proofs.Verdicts.Subscriptions.{subscribing_only}
use Rattle.hla_checker.proofs.kept.KeptExecution.judge_subscription.Goals as goal

pub subscribe-requires-clause-some : goal.subscribe-requires-clause-some
subscribe-requires-clause-some c = (joined_within c.args.self.now.accounts c.args.federate c.requires.joined).0

pub subscribe-requires-clause-within : goal.subscribe-requires-clause-within
subscribe-requires-clause-within c = (joined_within c.args.self.now.accounts c.args.federate c.requires.joined).1

pub subscribe-requires-clause-numbered : goal.subscribe-requires-clause-numbered
subscribe-requires-clause-numbered c =
    (class_within c.args.self.now c.args.self.now c.args.class _ c.attributes_fault-fault.result refl c.requires.consistent c.attributes_fault-fault.ensures c.in-None.ensures.0).0

pub subscribe-requires-clause-defined : goal.subscribe-requires-clause-defined
subscribe-requires-clause-defined c =
    (class_within c.args.self.now c.args.self.now c.args.class _ c.attributes_fault-fault.result refl c.requires.consistent c.attributes_fault-fault.ensures c.in-None.ensures.0).1

pub returns-in-Some-clause-ok : goal.returns-in-Some-clause-ok
returns-in-Some-clause-ok c =
    let now = c.args.self.now in
    let x = services.SubscribeObjectClassAttributes c.args.class c.args.attributes.now in
    let refused = c.attributes_fault-fault.ensures ∙ ap (λ (a : List ℕ). first_fault (no_object_class (directory_of c.args.self.now) c.args.class ∷ no_attribute (directory_of c.args.self.now) c.args.class a ∷ [])) c.as_slice.ensures in
    called_unchanged now now c.args.federate x c.attributes_fault-fault.result c.args.outcome.now c.args.choice.now c.in-Some.verdict refl c.requires.consistent c.requires.joined refused
    (c.in-Some.ensures (central_of now) c.args.federate x (λ o. (λ e. e, λ e. e)) (subscribing_only c.args.class c.args.attributes.now))

pub returns-in_ok-subscribe-in-None-clause-ok : goal.returns-in_ok-subscribe-in-None-clause-ok
returns-in_ok-subscribe-in-None-clause-ok c =
    let now = c.args.self.now in
    let x = services.SubscribeObjectClassAttributes c.args.class c.args.attributes.now in
    let refused = c.attributes_fault-fault.ensures ∙ ap (λ (a : List ℕ). first_fault (no_object_class (directory_of c.args.self.now) c.args.class ∷ no_attribute (directory_of c.args.self.now) c.args.class a ∷ [])) c.as_slice.ensures in
    let follows = c.in_ok-subscribe-in-None.ensures.subscribed ∙ ap (λ (a : List ℕ). after_subscribe (central_of c.args.self.now) c.args.federate c.args.class (Some a)) c.in_ok-own-in-None.ensures.ok in
    done_judged now now c.subscribe.new.self c.args.federate x c.attributes_fault-fault.result c.args.outcome.now c.args.choice.now refl c.requires.joined refused c.in-None.ensures
    (λ o. (λ e. e, λ e. e)) tt follows c.in_ok-subscribe-in-None.ensures.consistent

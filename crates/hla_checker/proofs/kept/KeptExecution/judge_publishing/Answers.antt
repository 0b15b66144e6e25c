use Rattle.std.proofs.Common.{ℕ, List, Some, ◌∷◌, [], refl, ap, ◌∙◌}
use Rattle.hla_base.specs.RowRefusals.{first_fault}
use Rattle.hla_base.specs.Tables.{upd2}
use Rattle.hla_declaration.specs.Declarations.{DeclarationsValue, declarations_of}
use Rattle.hla_machine.specs.declared.service.Service.TheVariants as services
use Rattle.hla_machine.specs.Refusals.{no_attribute, no_object_class}
use Rattle.hla_machine.specs.Registered.{registry_of}
use Rattle.hla_accounts.specs.Accounts.{central_with}
use Rattle.hla_verdicts.specs.Kept.{KeptValue, central_of, directory_with, directory_of}
use Rattle.hla_checker.proofs.Verdicts.Declarations.{caller_within, class_within, declared_consistent, done_judged, publishing_only}
use Rattle.hla_checker.proofs.Verdicts.LookUps.{called_unchanged}
use Rattle.hla_checker.proofs.kept.KeptExecution.judge_publishing.Goals as goal

pub publish_object_class-requires-clause-some : goal.publish_object_class-requires-clause-some
publish_object_class-requires-clause-some c =
    let v : KeptValue = record { catalogue = c.self.inside.catalogue; declarations = c.self.inside.declarations; objects = c.self.inside.registry; accounts = c.self.inside.accounts; points = c.self.inside.points } in
    (caller_within v c.args.self.now c.args.federate c.self.view_is c.requires.consistent c.requires.joined).0

pub publish_object_class-requires-clause-joined : goal.publish_object_class-requires-clause-joined
publish_object_class-requires-clause-joined c =
    let v : KeptValue = record { catalogue = c.self.inside.catalogue; declarations = c.self.inside.declarations; objects = c.self.inside.registry; accounts = c.self.inside.accounts; points = c.self.inside.points } in
    (caller_within v c.args.self.now c.args.federate c.self.view_is c.requires.consistent c.requires.joined).1

pub publish_object_class-requires-clause-numbered : goal.publish_object_class-requires-clause-numbered
publish_object_class-requires-clause-numbered c =
    let v : KeptValue = record { catalogue = c.self.inside.catalogue; declarations = c.self.inside.declarations; objects = c.self.inside.registry; accounts = c.self.inside.accounts; points = c.self.inside.points } in
    (class_within v c.args.self.now c.args.class _ c.attributes_fault-fault.result c.self.view_is c.requires.consistent c.attributes_fault-fault.ensures c.in-None.ensures.0).0

pub publish_object_class-requires-clause-defined : goal.publish_object_class-requires-clause-defined
publish_object_class-requires-clause-defined c =
    let v : KeptValue = record { catalogue = c.self.inside.catalogue; declarations = c.self.inside.declarations; objects = c.self.inside.registry; accounts = c.self.inside.accounts; points = c.self.inside.points } in
    (class_within v c.args.self.now c.args.class _ c.attributes_fault-fault.result c.self.view_is c.requires.consistent c.attributes_fault-fault.ensures c.in-None.ensures.0).1

pub returns-in-Some-clause-ok : goal.returns-in-Some-clause-ok
returns-in-Some-clause-ok c =
    let now = c.args.self.now in
    let x = services.PublishObjectClass c.args.class c.args.attributes.now in
    let refused = c.attributes_fault-fault.ensures ∙ ap (λ (a : List ℕ). first_fault (no_object_class (directory_of c.args.self.now) c.args.class ∷ no_attribute (directory_of c.args.self.now) c.args.class a ∷ [])) c.as_slice.ensures in
    called_unchanged now now c.args.federate x c.attributes_fault-fault.result c.args.outcome.now c.args.choice.now c.in-Some.verdict refl c.requires.consistent c.requires.joined refused
    (c.in-Some.ensures (central_of now) c.args.federate x (λ o. (λ e. e, λ e. e)) (publishing_only c.args.class c.args.attributes.now))

pub returns-in_ok-own-in-None-clause-ok : goal.returns-in_ok-own-in-None-clause-ok
returns-in_ok-own-in-None-clause-ok c =
    let v : KeptValue = record { catalogue = c.self.inside.catalogue; declarations = c.self.inside.declarations; objects = c.self.inside.registry; accounts = c.self.inside.accounts; points = c.self.inside.points } in
    let f = c.args.federate in
    let t = declarations_of v.declarations in
    let x = services.PublishObjectClass c.args.class c.args.attributes.now in
    let refused = c.attributes_fault-fault.ensures ∙ ap (λ (a : List ℕ). first_fault (no_object_class (directory_of c.args.self.now) c.args.class ∷ no_attribute (directory_of c.args.self.now) c.args.class a ∷ [])) c.as_slice.ensures in
    let declared = c.publish_object_class.ensures ∙ ap (λ (a : List ℕ). record (declarations_of v.declarations) { published = upd2 (declarations_of v.declarations).published c.args.federate c.args.class (Some a) }) c.in_ok-own-in-None.ensures.ok in
    done_judged v c.args.self.now (record v { declarations = c.publish_object_class.new.self }) f x c.attributes_fault-fault.result c.args.outcome.now c.args.choice.now c.self.view_is c.requires.joined refused c.in-None.ensures
    (λ o. (λ e. e, λ e. e)) tt
    (ap (λ (u : DeclarationsValue). central_with (directory_with v u (registry_of v.objects)) v.accounts) declared)
    (declared_consistent v c.args.self.now c.publish_object_class.new.self (record t { published = upd2 t.published f c.args.class (Some c.args.attributes.now) }) c.self.view_is c.requires.consistent declared (refl, refl, refl))

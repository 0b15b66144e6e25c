use Rattle.std.proofs.Common.{◌≡◌, ℕ, List, Some, true, refl, sym, ap, subst, ◌∙◌}
use mathlib.Core.Bool.{false≢true}
use Rattle.hla_base.specs.RowRefusals.{first_fault}
use Rattle.hla_machine.specs.Registered.{registry_of}
use Rattle.hla_machine.specs.Directory.{name_or_default}
use Rattle.hla_machine.specs.Machine.{central_seen}
use Rattle.hla_machine.specs.Refusals.{call_tests}
use Rattle.hla_machine.specs.declared.service.Service.TheVariants as services
use Rattle.hla_machine.specs.declared.step.Answer.TheVariants as answers
use Rattle.hla_verdicts.specs.Kept.{KeptValue, central_of}
use Rattle.hla_verdicts.proofs.Steps.Calls.{joined_within}
use Rattle.hla_checker.proofs.Verdicts.LookUps.{called_unchanged}
use Rattle.hla_checker.proofs.Verdicts.Registrations.{registration_done, registration_fault, registration_room, registration_unused, registration_wrong}
use Rattle.hla_checker.proofs.kept.KeptExecution.judge_registration.Goals as goal

pub register-requires-clause-some : goal.register-requires-clause-some
register-requires-clause-some c = (joined_within c.args.self.now.accounts c.args.federate c.requires.joined).0

pub register-requires-clause-within : goal.register-requires-clause-within
register-requires-clause-within c = (joined_within c.args.self.now.accounts c.args.federate c.requires.joined).1

pub register-requires-clause-few : goal.register-requires-clause-few
register-requires-clause-few c =
    let next : c.next_object-object.result ≡ (registry_of c.args.self.now.objects).next_object = c.next_object-object.ensures.next ∙ ap (λ (y : KeptValue). (registry_of y.objects).next_object) c.self.view_is in
    let named : c.in_ok-given.given ≡ name_or_default (registry_of c.args.self.now.objects).next_object c.args.name.now = c.in_ok-given.ensures.ok ∙ ap (λ (h : ℕ). name_or_default h c.args.name.now) next in
    let tested = c.register_fault-fault.ensures ∙ ap (λ (n : List ℕ). first_fault (call_tests (central_seen (central_of c.args.self.now)) c.args.federate (services.RegisterObjectInstance c.args.class (Some n)))) c.as_slice.ensures in
    registration_room c.args.self.now c.args.federate c.args.class c.args.name.now c.in_ok-given.given named c.requires.joined c.register_fault-fault.result tested c.in-Ok.ensures.answered.0

pub register-requires-clause-unused : goal.register-requires-clause-unused
register-requires-clause-unused c =
    let next : c.next_object-object.result ≡ (registry_of c.args.self.now.objects).next_object = c.next_object-object.ensures.next ∙ ap (λ (y : KeptValue). (registry_of y.objects).next_object) c.self.view_is in
    let named : c.in_ok-given.given ≡ name_or_default (registry_of c.args.self.now.objects).next_object c.args.name.now = c.in_ok-given.ensures.ok ∙ ap (λ (h : ℕ). name_or_default h c.args.name.now) next in
    let tested = c.register_fault-fault.ensures ∙ ap (λ (n : List ℕ). first_fault (call_tests (central_seen (central_of c.args.self.now)) c.args.federate (services.RegisterObjectInstance c.args.class (Some n)))) c.as_slice.ensures in
    registration_unused c.args.self.now c.args.federate c.args.class c.args.name.now c.in_ok-given.given named c.requires.joined c.register_fault-fault.result tested c.in-Ok.ensures.answered.0

pub returns-in-Err-clause-ok : goal.returns-in-Err-clause-ok
returns-in-Err-clause-ok c =
    let next : c.next_object-object.result ≡ (registry_of c.args.self.now.objects).next_object = c.next_object-object.ensures.next ∙ ap (λ (y : KeptValue). (registry_of y.objects).next_object) c.self.view_is in
    let named : c.in_ok-given.given ≡ name_or_default (registry_of c.args.self.now.objects).next_object c.args.name.now = c.in_ok-given.ensures.ok ∙ ap (λ (h : ℕ). name_or_default h c.args.name.now) next in
    let tested = c.register_fault-fault.ensures ∙ ap (λ (n : List ℕ). first_fault (call_tests (central_seen (central_of c.args.self.now)) c.args.federate (services.RegisterObjectInstance c.args.class (Some n)))) c.as_slice.ensures in
    let now = c.args.self.now in
    let x = services.RegisterObjectInstance c.args.class c.args.name.now in
    called_unchanged now now c.args.federate x c.register_fault-fault.result c.args.outcome.now c.args.choice.now c.in-Err.verdict refl c.requires.consistent c.requires.joined
    (registration_fault now c.args.federate c.args.class c.args.name.now c.in_ok-given.given named c.requires.joined c.register_fault-fault.result tested)
    (c.in-Err.ensures.told (central_of now) c.args.federate x (λ o. (λ e. e, λ e. e)))

pub returns-then-not-is_registered-clause-ok : goal.returns-then-not-is_registered-clause-ok
returns-then-not-is_registered-clause-ok c =
    let next : c.next_object-object.result ≡ (registry_of c.args.self.now.objects).next_object = c.next_object-object.ensures.next ∙ ap (λ (y : KeptValue). (registry_of y.objects).next_object) c.self.view_is in
    let named : c.in_ok-given.given ≡ name_or_default (registry_of c.args.self.now.objects).next_object c.args.name.now = c.in_ok-given.ensures.ok ∙ ap (λ (h : ℕ). name_or_default h c.args.name.now) next in
    let tested = c.register_fault-fault.ensures ∙ ap (λ (n : List ℕ). first_fault (call_tests (central_seen (central_of c.args.self.now)) c.args.federate (services.RegisterObjectInstance c.args.class (Some n)))) c.as_slice.ensures in
    let other = subst (λ (n : List ℕ). c.in-Ok.answer.now ≡ answers.Registered c.next_object-object.result n → c.is_registered.result ≡ true) c.as_slice-in-Ok.ensures c.is_registered.ensures.1 in
    registration_wrong c.args.self.now c.args.federate c.args.class c.args.name.now c.in_ok-given.given named c.requires.joined c.register_fault-fault.result tested
    c.args.outcome.now c.in-Ok.answer.now c.args.choice.now c.next_object-object.result next c.in-Ok.ensures.answered (λ e. false≢true (sym c.if-not-is_registered.true ∙ other e))

pub returns-in_ok-register-in-Ok-clause-ok : goal.returns-in_ok-register-in-Ok-clause-ok
returns-in_ok-register-in-Ok-clause-ok c =
    let next : c.next_object-object.result ≡ (registry_of c.args.self.now.objects).next_object = c.next_object-object.ensures.next ∙ ap (λ (y : KeptValue). (registry_of y.objects).next_object) c.self.view_is in
    let named : c.in_ok-given.given ≡ name_or_default (registry_of c.args.self.now.objects).next_object c.args.name.now = c.in_ok-given.ensures.ok ∙ ap (λ (h : ℕ). name_or_default h c.args.name.now) next in
    let tested = c.register_fault-fault.ensures ∙ ap (λ (n : List ℕ). first_fault (call_tests (central_seen (central_of c.args.self.now)) c.args.federate (services.RegisterObjectInstance c.args.class (Some n)))) c.as_slice.ensures in
    let answers_so = c.is_registered.ensures.0 c.if-not-is_registered.false ∙ ap (λ (n : List ℕ). answers.Registered c.next_object-object.result n) c.as_slice-in-Ok.ensures in
    registration_done c.args.self.now c.args.federate c.args.class c.args.name.now c.in_ok-given.given named c.requires.joined c.register_fault-fault.result tested
    c.register.new.self c.args.outcome.now c.in-Ok.answer.now c.args.choice.now c.next_object-object.result next c.in-Ok.ensures.answered answers_so
    c.in_ok-register-in-Ok.ensures.registered c.in_ok-register-in-Ok.ensures.consistent

use Rattle.std.proofs.Common.{rules, ap, subst, sym, ◌∙◌, ◌<◌, ◌≤◌, ℕ, length}
use Rattle.hla_catalogue.specs.CatalogueValue.{empty_catalogue}
use Rattle.hla_machine.specs.Directory.{new_directory}
use Rattle.hla_machine.specs.Central.{Central}
use Rattle.hla_machine.specs.Machine.{central_seen}
use Rattle.hla_machine.specs.declared.service.Service.TheVariants as services
use Rattle.hla_machine.specs.declared.step.Step.TheVariants as steps
use Rattle.hla_accounts.specs.Accounts.{central_with}
use Rattle.hla_accounts.proofs.AfterSteps.Counts.{same_size}
use Rattle.hla_verdicts.proofs.Steps.Outcomes.{refused_told, done_wrong}
use Rattle.hla_verdicts.proofs.Steps.Calls.{joined_within}
use Rattle.hla_verdicts.proofs.Steps.Services.{joined_refusal, plain_chose, plain_not_done, plain_done}
use Rattle.hla_verdicts.proofs.Steps.Retractions.{retract_plain, retractor, retracted_kept, retracted_after}
use Rattle.hla_verdicts.proofs.retracting.judge_retraction.Goals as goal

pub returns-then-not-is_nothing-clause-ok : goal.returns-then-not-is_nothing-clause-ok
returns-then-not-is_nothing-clause-ok c d =
    plain_chose (central_with d c.args.accounts.now) c.args.federate (services.Retract c.args.event) (retract_plain c.args.event) (central_with d c.args.accounts.now) c.args.outcome.now c.args.choice.now c.is_nothing.result c.is_nothing.ensures c.if-not-is_nothing.true

pub returns-in-Refused-clause-ok : goal.returns-in-Refused-clause-ok
returns-in-Refused-clause-ok c d = let x = services.Retract c.args.event in
    refused_told (central_with d c.args.accounts.now) (steps.Call c.args.federate x) c.retract_fault-fault.result c.in-Refused.given c.args.outcome.now c.args.choice.now c.eq.result c.of.result
    (c.retract_fault-fault.ensures d ∙ joined_refusal (central_with d c.args.accounts.now) c.args.federate x c.requires)
    c.in-Refused.is (search rules) (c.is_nothing.ensures.0 c.if-not-is_nothing.false) c.of.ensures

pub returns-in-Some-clause-ok : goal.returns-in-Some-clause-ok
returns-in-Some-clause-ok c d = let x = services.Retract c.args.event in
    done_wrong (central_with d c.args.accounts.now) (central_with d c.args.accounts.now) (steps.Call c.args.federate x) c.retract_fault-fault.result c.in-Some.field-0 c.args.outcome.now c.in-Done.answer c.args.choice.now
    (c.retract_fault-fault.ensures d ∙ joined_refusal (central_with d c.args.accounts.now) c.args.federate x c.requires) c.in-Some.is c.in-Done.is

pub returns-then-not-is_done-clause-ok : goal.returns-then-not-is_done-clause-ok
returns-then-not-is_done-clause-ok c d =
    plain_not_done (central_with d c.args.accounts.now) c.args.federate (services.Retract c.args.event) (retract_plain c.args.event) (central_with d c.args.accounts.now) c.args.outcome.now c.in-Done.answer c.args.choice.now c.is_done.result c.in-Done.is c.is_done.ensures c.if-not-is_done.true

pub take_back-requires-clause-some : goal.take_back-requires-clause-some
take_back-requires-clause-some c = let s = central_seen (central_with (new_directory empty_catalogue) c.args.accounts.now) in
    let sender = retractor s c.args.federate c.args.event (sym (c.retract_fault-fault.ensures (new_directory empty_catalogue)) ∙ c.in-None.is) in
    subst (λ (g : ℕ). 0 < g) (sym sender) (joined_within c.args.accounts.now c.args.federate c.requires).0

pub take_back-requires-clause-within : goal.take_back-requires-clause-within
take_back-requires-clause-within c = let s = central_seen (central_with (new_directory empty_catalogue) c.args.accounts.now) in
    let sender = retractor s c.args.federate c.args.event (sym (c.retract_fault-fault.ensures (new_directory empty_catalogue)) ∙ c.in-None.is) in
    subst (λ (g : ℕ). g ≤ length c.args.accounts.now) (sym sender) (joined_within c.args.accounts.now c.args.federate c.requires).1

pub take_back-requires-clause-may : goal.take_back-requires-clause-may
take_back-requires-clause-may c =
    retracted_kept (central_seen (central_with (new_directory empty_catalogue) c.args.accounts.now)) c.args.federate c.args.event (sym (c.retract_fault-fault.ensures (new_directory empty_catalogue)) ∙ c.in-None.is)

pub returns-in_ok-take_back-in-None-clause-ok : goal.returns-in_ok-take_back-in-None-clause-ok
returns-in_ok-take_back-in-None-clause-ok c d = let now = central_with d c.args.accounts.now in let x = services.Retract c.args.event in
    plain_done now c.args.federate x (retract_plain c.args.event) (central_with d c.take_back.new.self) c.args.outcome.now c.in-Done.answer c.args.choice.now c.retract_fault-fault.result
    (c.retract_fault-fault.ensures d ∙ joined_refusal now c.args.federate x c.requires) c.in-None.is c.in-Done.is (c.is_done.ensures.0 c.if-not-is_done.false) (c.is_nothing.ensures.0 c.if-not-is_nothing.false)
    (retracted_after now (central_with d c.take_back.new.self) c.args.federate c.args.event (retractor (central_seen now) c.args.federate c.args.event (sym (c.retract_fault-fault.ensures d) ∙ c.in-None.is)) (c.in_ok-take_back-in-None.ensures.ok d))

pub returns-in_ok-take_back-in-None-clause-size : goal.returns-in_ok-take_back-in-None-clause-size
returns-in_ok-take_back-in-None-clause-size c = same_size c.args.accounts.now c.take_back.new.self (λ d. ap (λ (x : Central). x.directory.next_federate) (c.in_ok-take_back-in-None.ensures.ok d))

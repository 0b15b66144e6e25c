use Rattle.std.proofs.Common.{rules, sym, ◌∙◌}
use Rattle.hla_catalogue.specs.CatalogueValue.{empty_catalogue}
use Rattle.hla_machine.specs.Directory.{new_directory}
use Rattle.hla_machine.specs.declared.step.Step.TheVariants as steps
use Rattle.hla_accounts.specs.Accounts.{central_with}
use Rattle.hla_verdicts.proofs.Steps.Outcomes.{refused_told, done_wrong}
use Rattle.hla_verdicts.proofs.Steps.Calls.{joined_within, row_service_of, row_refusal, row_chose, row_not_done, row_done, size_changed}
use Rattle.hla_verdicts.proofs.row_services.judge_row_service.Goals as goal

pub change_row-requires-clause-some : goal.change_row-requires-clause-some
change_row-requires-clause-some c = (joined_within c.args.accounts.now c.args.federate c.requires.joined).0

pub change_row-requires-clause-within : goal.change_row-requires-clause-within
change_row-requires-clause-within c = (joined_within c.args.accounts.now c.args.federate c.requires.joined).1

pub change_row-requires-clause-may : goal.change_row-requires-clause-may
change_row-requires-clause-may c = (row_service_of c.args.service.now c.args.change c.requires.change).may _ (sym c.row_fault-fault.ensures ∙ c.in-None.is)

pub returns-then-not-is_nothing-clause-judged : goal.returns-then-not-is_nothing-clause-judged
returns-then-not-is_nothing-clause-judged c d =
    row_chose (central_with d c.args.accounts.now) c.args.federate c.args.service.now c.args.change (row_service_of c.args.service.now c.args.change c.requires.change) c.requires.joined
    (central_with d c.args.accounts.now) c.args.outcome.now c.args.choice.now c.is_nothing.result c.is_nothing.ensures c.if-not-is_nothing.true

pub returns-in-Refused-clause-judged : goal.returns-in-Refused-clause-judged
returns-in-Refused-clause-judged c d =
    refused_told (central_with d c.args.accounts.now) (steps.Call c.args.federate c.args.service.now) c.row_fault-fault.result c.in-Refused.given c.args.outcome.now c.args.choice.now c.eq.result c.of.result
    (c.row_fault-fault.ensures ∙ row_refusal (central_with d c.args.accounts.now) c.args.federate c.args.service.now c.args.change (row_service_of c.args.service.now c.args.change c.requires.change) c.requires.joined)
    c.in-Refused.is (search rules) (c.is_nothing.ensures.0 c.if-not-is_nothing.false) c.of.ensures

pub returns-in-Some-clause-judged : goal.returns-in-Some-clause-judged
returns-in-Some-clause-judged c d =
    done_wrong (central_with d c.args.accounts.now) (central_with d c.args.accounts.now) (steps.Call c.args.federate c.args.service.now) c.row_fault-fault.result c.in-Some.field-0 c.args.outcome.now c.in-Done.answer c.args.choice.now
    (c.row_fault-fault.ensures ∙ row_refusal (central_with d c.args.accounts.now) c.args.federate c.args.service.now c.args.change (row_service_of c.args.service.now c.args.change c.requires.change) c.requires.joined)
    c.in-Some.is c.in-Done.is

pub returns-then-not-is_done-clause-judged : goal.returns-then-not-is_done-clause-judged
returns-then-not-is_done-clause-judged c d =
    row_not_done (central_with d c.args.accounts.now) c.args.federate c.args.service.now c.args.change (row_service_of c.args.service.now c.args.change c.requires.change) c.requires.joined
    (central_with d c.args.accounts.now) c.args.outcome.now c.in-Done.answer c.args.choice.now c.is_done.result c.in-Done.is c.is_done.ensures c.if-not-is_done.true

pub returns-else-not-is_done-clause-judged : goal.returns-else-not-is_done-clause-judged
returns-else-not-is_done-clause-judged c d =
    row_done (central_with d c.args.accounts.now) c.args.federate c.args.service.now c.args.change (row_service_of c.args.service.now c.args.change c.requires.change) c.requires.joined
    (central_with d c.change_row.new.self) c.args.outcome.now c.in-Done.answer c.args.choice.now c.row_fault-fault.result c.row_fault-fault.ensures c.in-None.is c.in-Done.is (c.is_done.ensures.0 c.if-not-is_done.false)
    (c.is_nothing.ensures.0 c.if-not-is_nothing.false) (c.change_row.ensures d)

pub returns-else-not-is_done-clause-size : goal.returns-else-not-is_done-clause-size
returns-else-not-is_done-clause-size c = size_changed (new_directory empty_catalogue) c.args.accounts.now c.change_row.new.self c.args.federate _ (c.change_row.ensures (new_directory empty_catalogue))

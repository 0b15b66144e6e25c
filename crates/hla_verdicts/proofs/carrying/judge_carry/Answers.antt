use Rattle.std.proofs.Common.{rules, sym, ◌∙◌}
use Rattle.hla_catalogue.specs.CatalogueValue.{empty_catalogue}
use Rattle.hla_machine.specs.Directory.{new_directory}
use Rattle.hla_machine.specs.declared.step.Step.TheVariants as steps
use Rattle.hla_accounts.specs.Accounts.{central_with}
use Rattle.hla_verdicts.proofs.Steps.Outcomes.{refused_told, done_wrong}
use Rattle.hla_verdicts.proofs.Steps.Calls.{carry_room, carry_told}
use Rattle.hla_verdicts.proofs.carrying.judge_carry.Goals as goal

pub judge_taking-requires : goal.judge_taking-requires
judge_taking-requires c = carry_room _ _ _ _ (sym (c.carry_fault-fault.ensures (new_directory empty_catalogue)) ∙ c.in-None.is)

pub returns-in-Refused-clause-ok : goal.returns-in-Refused-clause-ok
returns-in-Refused-clause-ok c d =
    refused_told (central_with d c.args.accounts.now) (steps.Carry c.args.from c.args.to) c.carry_fault-fault.result c.in-Refused.given c.args.outcome.now c.args.choice.now c.eq.result c.of.result
    (c.carry_fault-fault.ensures d) c.in-Refused.is (search rules) (c.is_nothing.ensures.0 c.if-not-is_nothing.false) c.of.ensures

pub returns-in-Some-clause-ok : goal.returns-in-Some-clause-ok
returns-in-Some-clause-ok c d =
    done_wrong (central_with d c.args.accounts.now) (central_with d c.args.accounts.now) (steps.Carry c.args.from c.args.to) c.carry_fault-fault.result c.in-Some.field-0 c.args.outcome.now c.in-Done.answer c.args.choice.now
    (c.carry_fault-fault.ensures d) c.in-Some.is c.in-Done.is

pub returns-in_ok-verdict-in-None-clause-ok : goal.returns-in_ok-verdict-in-None-clause-ok
returns-in_ok-verdict-in-None-clause-ok c d =
    carry_told (central_with d c.args.accounts.now) (central_with d c.judge_taking.new.accounts) c.args.from c.args.to c.carry_fault-fault.result c.in-Done.answer c.args.outcome.now c.args.choice.now c.in_ok-verdict-in-None.verdict
    (c.carry_fault-fault.ensures d) c.in-None.is c.in-Done.is (c.is_nothing.ensures.0 c.if-not-is_nothing.false) (c.in_ok-verdict-in-None.ensures.ok d)

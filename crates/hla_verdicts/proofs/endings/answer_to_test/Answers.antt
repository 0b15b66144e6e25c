use Rattle.std.proofs.Common.{◌≡◌, Some, rules}
use Rattle.std.specs.Bool.{Decides}
use Rattle.hla_machine.specs.declared.step.Step.TheVariants.{Call}
use Rattle.hla_verdicts.proofs.Steps.Outcomes.{refused_told, done_wrong}
use Rattle.hla_verdicts.proofs.Steps.Endings.{ending_chose}
use Rattle.hla_verdicts.proofs.endings.answer_to_test.Goals as goal
use Rattle.hla_verdicts.proofs.endings.answer_to_test.Goals.{After-of}

pub returns-then-not-is_nothing-clause-told : goal.returns-then-not-is_nothing-clause-told
returns-then-not-is_nothing-clause-told c d f x plain is =
    ending_chose d f x plain d c.args.outcome.now c.args.choice.now c.is_nothing.result c.is_nothing.ensures c.if-not-is_nothing.true

same_fault : (c : After-of) → Decides c.eq.result (c.args.fault ≡ Some c.in-Refused.given)
same_fault c = search rules

pub returns-in-Refused-clause-told : goal.returns-in-Refused-clause-told
returns-in-Refused-clause-told c d f x plain is =
    refused_told d (Call f x) c.args.fault c.in-Refused.given c.args.outcome.now c.args.choice.now c.eq.result c.of.result is c.in-Refused.is (same_fault c) (c.is_nothing.ensures.0 c.if-not-is_nothing.false) c.of.ensures

pub returns-in-Some-clause-told : goal.returns-in-Some-clause-told
returns-in-Some-clause-told c d f x plain is =
    done_wrong d d (Call f x) c.args.fault c.in-Some.field-0 c.args.outcome.now c.in-Done.answer c.args.choice.now is c.in-Some.is c.in-Done.is

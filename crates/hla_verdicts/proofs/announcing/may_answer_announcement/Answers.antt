use Rattle.std.proofs.Common.{sym, ◌∙◌}
use Rattle.hla_accounts.specs.Accounts.{central_with}
use Rattle.hla_machine.specs.declared.step.Choice.TheVariants as choices
use Rattle.hla_verdicts.proofs.Steps.Outcomes.{announcement_so}
use Rattle.hla_verdicts.proofs.announcing.may_answer_announcement.Goals as goal

pub returns-in-Some : goal.returns-in-Some
returns-in-Some c d =
    announcement_so (central_with d c.args.accounts.now) c.args.federate c.args.answer.now choices.None c.in-Some.promise c.may_promise.result (sym c.announced_in.ensures ∙ c.in-Some.is) (c.may_promise.ensures d)

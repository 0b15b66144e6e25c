use Rattle.std.proofs.Common.{ap}
use Rattle.hla_base.specs.declared.content.Content.TheVariants as contents
use Rattle.hla_accounts.specs.Accounts.{central_with}
use Rattle.hla_verdicts.proofs.Picks.Messages.{judged_of}
use Rattle.hla_verdicts.proofs.giving.judge_interaction.Goals as goal

pub returns-clause-ok : goal.returns-clause-ok
returns-clause-ok c d =
    judged_of (central_with d c.args.accounts.now) (central_with d c.judge_giving-verdict.new.accounts) c.args.federate (contents.Interaction c.args.class c.args.values.now) (contents.Interaction c.args.class c.in_ok-values.values) c.args.event c.args.delivery
    c.args.choice.now c.judge_giving-verdict.result (ap (contents.Interaction c.args.class) c.in_ok-values.ensures.ok) (c.judge_giving-verdict.ensures.judged d)

use Rattle.std.proofs.Common.{ap}
use Rattle.hla_machine.specs.Central.{Central}
use Rattle.hla_accounts.proofs.AfterSteps.Counts.{same_size}
use Rattle.hla_verdicts.proofs.ticking.judge_entry.Goals as goal

pub returns-clause-judged : goal.returns-clause-judged
returns-clause-judged c d = ((c.may_enter.ensures.0 c.if-not-may_enter.false, c.is_nothing.ensures.0 c.if-not-is_nothing.false), c.change_row.ensures d)

pub returns-clause-size : goal.returns-clause-size
returns-clause-size c = same_size c.args.accounts.now c.change_row.new.self (λ d. ap (λ (x : Central). x.directory.next_federate) (c.change_row.ensures d))

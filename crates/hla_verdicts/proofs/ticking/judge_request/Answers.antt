use Rattle.std.proofs.Common.{sym, ap, ◌∙◌}
use mathlib.Core.Bool.{false≢true}
use Rattle.hla_machine.specs.Central.{Central}
use Rattle.hla_accounts.proofs.AfterSteps.Counts.{same_size}
use Rattle.hla_verdicts.proofs.ticking.judge_request.Goals as goal

pub returns-then-not-may_be_asked-clause-judged : goal.returns-then-not-may_be_asked-clause-judged
returns-then-not-may_be_asked-clause-judged c d = λ may. false≢true (sym c.if-not-may_be_asked.true ∙ (c.may_be_asked.ensures d).1 may.0)

pub returns-clause-judged : goal.returns-clause-judged
returns-clause-judged c d = (((c.may_be_asked.ensures d).0 c.if-not-may_be_asked.false, c.is_nothing.ensures.0 c.if-not-is_nothing.false), c.take_due.ensures d)

pub returns-clause-size : goal.returns-clause-size
returns-clause-size c = same_size c.args.accounts.now c.take_due.new.self (λ d. ap (λ (x : Central). x.directory.next_federate) (c.take_due.ensures d))

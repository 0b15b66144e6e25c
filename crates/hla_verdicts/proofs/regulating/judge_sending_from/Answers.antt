use Rattle.std.proofs.Common.{sym, ap, ◌∙◌}
use mathlib.Core.Bool.{false≢true}
use Rattle.hla_machine.specs.Central.{Central}
use Rattle.hla_accounts.proofs.AfterSteps.Counts.{same_size}
use Rattle.hla_verdicts.proofs.Steps.Calls.{joined_within}
use Rattle.hla_verdicts.proofs.regulating.judge_sending_from.Goals as goal

pub change_row-requires-clause-some : goal.change_row-requires-clause-some
change_row-requires-clause-some c = (joined_within c.args.accounts.now c.args.federate c.requires.joined).0

pub change_row-requires-clause-within : goal.change_row-requires-clause-within
change_row-requires-clause-within c = (joined_within c.args.accounts.now c.args.federate c.requires.joined).1

pub returns-then-not-may_send_from-clause-judged : goal.returns-then-not-may_send_from-clause-judged
returns-then-not-may_send_from-clause-judged c d = λ may. false≢true (sym c.if-not-may_send_from.true ∙ (c.may_send_from.ensures.may d).1 may)

pub returns-clause-judged : goal.returns-clause-judged
returns-clause-judged c d = ((c.may_send_from.ensures.may d).0 c.if-not-may_send_from.false, c.change_row.ensures d)

pub returns-clause-size : goal.returns-clause-size
returns-clause-size c = same_size c.args.accounts.now c.change_row.new.self (λ d. ap (λ (x : Central). x.directory.next_federate) (c.change_row.ensures d))

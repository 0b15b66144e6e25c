use Rattle.std.proofs.Common.{sym, ap, ◌∙◌}
use mathlib.Core.Bool.{false≢true}
use Rattle.hla_machine.specs.Central.{Central}
use Rattle.hla_accounts.proofs.AfterSteps.Counts.{same_size}
use Rattle.hla_accounts.proofs.Tests.Calls.{distinct_decided}
use Rattle.hla_verdicts.proofs.constraining.judge_moving.Goals as goal

pub returns-then-not-are_moved_once-clause-judged : goal.returns-then-not-are_moved_once-clause-judged
returns-then-not-are_moved_once-clause-judged c d = λ may. false≢true (sym c.if-not-are_moved_once.true ∙ c.are_moved_once.ensures ∙ (distinct_decided c.args.events.now).1 may.1)

pub returns-then-not-may_be_constrained-clause-judged : goal.returns-then-not-may_be_constrained-clause-judged
returns-then-not-may_be_constrained-clause-judged c d = λ may. false≢true (sym c.if-not-may_be_constrained.true ∙ (c.may_be_constrained.ensures d).1 may.0)

pub returns-clause-judged : goal.returns-clause-judged
returns-clause-judged c d = (((c.may_be_constrained.ensures d).0 c.if-not-may_be_constrained.false, (distinct_decided c.args.events.now).0 (sym c.are_moved_once.ensures ∙ c.if-not-are_moved_once.false)), c.constrain.ensures d)

pub returns-clause-size : goal.returns-clause-size
returns-clause-size c = same_size c.args.accounts.now c.constrain.new.accounts (λ d. ap (λ (x : Central). x.directory.next_federate) (c.constrain.ensures d))

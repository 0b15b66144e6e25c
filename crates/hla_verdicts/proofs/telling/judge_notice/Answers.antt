use Rattle.std.proofs.Common.{sym, ap, refl, ◌∙◌}
use mathlib.Core.Bool.{false≢true}
use Rattle.hla_synchronization.specs.OpenPoints.{points_of}
use Rattle.hla_machine.specs.Directory.{with_points}
use Rattle.hla_machine.specs.Central.{Central}
use Rattle.hla_accounts.proofs.AfterSteps.Counts.{same_size}
use Rattle.hla_verdicts.proofs.telling.judge_notice.Goals as goal

pub returns-then-not-is_next_notice-clause-judged : goal.returns-then-not-is_next_notice-clause-judged
returns-then-not-is_next_notice-clause-judged c d at = λ may. false≢true (sym c.if-not-is_next_notice.true ∙ c.is_next_notice.ensures.1 may.0)

pub returns-clause-judged : goal.returns-clause-judged
returns-clause-judged c d at = ((c.is_next_notice.ensures.0 c.if-not-is_next_notice.false, c.is_nothing.ensures.0 c.if-not-is_nothing.false), c.hear.ensures d at)

pub returns-clause-size : goal.returns-clause-size
returns-clause-size c = same_size c.args.accounts.now c.hear.new.self (λ d. ap (λ (x : Central). x.directory.next_federate) (c.hear.ensures (with_points d (points_of c.args.points.now)) refl))

use Rattle.std.proofs.Common.{sym, ap, ◌∙◌}
use mathlib.Core.Bool.{false≢true}
use Rattle.hla_machine.specs.Central.{Central}
use Rattle.hla_accounts.proofs.AfterSteps.Counts.{same_size}
use Rattle.hla_verdicts.proofs.Steps.Calls.{joined_within}
use Rattle.hla_verdicts.proofs.discovering.judge_offer.Goals as goal

pub returns-then-not-is_next_offer-clause-judged : goal.returns-then-not-is_next_offer-clause-judged
returns-then-not-is_next_offer-clause-judged c d = λ may. false≢true (sym c.if-not-is_next_offer.true ∙ c.is_next_offer.ensures.1 may.0)

pub take_offer-requires-clause-some : goal.take_offer-requires-clause-some
take_offer-requires-clause-some c = (joined_within c.args.accounts.now c.args.federate c.requires).0

pub take_offer-requires-clause-within : goal.take_offer-requires-clause-within
take_offer-requires-clause-within c = (joined_within c.args.accounts.now c.args.federate c.requires).1

pub returns-clause-judged : goal.returns-clause-judged
returns-clause-judged c d = ((c.is_next_offer.ensures.0 c.if-not-is_next_offer.false, c.is_nothing.ensures.0 c.if-not-is_nothing.false), c.take_offer.ensures d)

pub returns-clause-size : goal.returns-clause-size
returns-clause-size c = same_size c.args.accounts.now c.take_offer.new.self (λ d. ap (λ (x : Central). x.directory.next_federate) (c.take_offer.ensures d))

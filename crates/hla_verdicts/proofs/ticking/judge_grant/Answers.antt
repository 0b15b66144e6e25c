use Rattle.std.proofs.Common.{sym, ap, ◌∙◌}
use mathlib.Core.Bool.{false≢true}
use Rattle.hla_catalogue.specs.CatalogueValue.{empty_catalogue}
use Rattle.hla_machine.specs.Directory.{new_directory}
use Rattle.hla_machine.specs.Central.{Central}
use Rattle.hla_accounts.specs.Accounts.{central_with}
use Rattle.hla_accounts.proofs.AfterSteps.Counts.{same_size}
use Rattle.hla_verdicts.proofs.Picks.Ticks.{granted_low}
use Rattle.hla_verdicts.proofs.ticking.judge_grant.Goals as goal

pub returns-then-not-may_be_granted-clause-judged : goal.returns-then-not-may_be_granted-clause-judged
returns-then-not-may_be_granted-clause-judged c d = λ may. false≢true (sym c.if-not-may_be_granted.true ∙ (c.may_be_granted.ensures d).1 may.0)

pub change_row-requires-clause-may : goal.change_row-requires-clause-may
change_row-requires-clause-may c =
    granted_low (central_with (new_directory empty_catalogue) c.args.accounts.now) c.args.federate c.args.time c.row_numbers.ensures ((c.may_be_granted.ensures (new_directory empty_catalogue)).0 c.if-not-may_be_granted.false)

pub returns-clause-judged : goal.returns-clause-judged
returns-clause-judged c d = (((c.may_be_granted.ensures d).0 c.if-not-may_be_granted.false, c.is_nothing.ensures.0 c.if-not-is_nothing.false), c.change_row.ensures d)

pub returns-clause-size : goal.returns-clause-size
returns-clause-size c = same_size c.args.accounts.now c.change_row.new.self (λ d. ap (λ (x : Central). x.directory.next_federate) (c.change_row.ensures d))

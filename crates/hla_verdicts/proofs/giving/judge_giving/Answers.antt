use Rattle.std.proofs.Common.{sym, ap, ◌∙◌}
use mathlib.Core.Bool.{false≢true}
use Rattle.hla_catalogue.specs.CatalogueValue.{empty_catalogue}
use Rattle.hla_machine.specs.Directory.{new_directory}
use Rattle.hla_machine.specs.Central.{Central}
use Rattle.hla_accounts.specs.Accounts.{central_with}
use Rattle.hla_accounts.proofs.AfterSteps.Counts.{same_size}
use Rattle.hla_verdicts.proofs.Picks.Messages.{next_given, pick_within}
use Rattle.hla_verdicts.proofs.giving.judge_giving.Goals as goal

pub returns-then-not-may_deliver-clause-judged : goal.returns-then-not-may_deliver-clause-judged
returns-then-not-may_deliver-clause-judged c d = λ may. false≢true (sym c.if-not-may_deliver.true ∙ (c.may_deliver.ensures d).1 may.0)

pub give-requires-clause-may : goal.give-requires-clause-may
give-requires-clause-may c stamp is =
    pick_within (central_with (new_directory empty_catalogue) c.args.accounts.now) c.args.federate c.args.content.now c.args.event c.args.delivery stamp
    ((c.may_deliver.ensures (new_directory empty_catalogue)).0 c.if-not-may_deliver.false) is

pub returns-clause-judged : goal.returns-clause-judged
returns-clause-judged c d = (((c.may_deliver.ensures d).0 c.if-not-may_deliver.false, c.is_nothing.ensures.0 c.if-not-is_nothing.false), c.give.ensures d)

pub returns-clause-size : goal.returns-clause-size
returns-clause-size c = same_size c.args.accounts.now c.give.new.accounts
    (λ d. ap (λ (x : Central). x.directory.next_federate) (c.give.ensures d) ∙ next_given (central_with d c.args.accounts.now) c.args.federate c.args.event c.args.delivery)

-- Who never joined has sent nothing.
use Rattle.std.proofs.Common.{◌∙◌, sym, ap}
use Rattle.hla_retraction.specs.SentEvents.{SentEvent}
use Rattle.hla_retraction.specs.SentRows.{sent_of}
use Rattle.hla_accounts.specs.declared.account.Account.{Account}
use Rattle.hla_accounts.proofs.AfterSteps.Accounts.{nothing_sent}
use Rattle.hla_accounts.proofs.accounts.Accounts.is_retracted.Goals as goal

pub returns-in-None : goal.returns-in-None
returns-in-None c = sym (ap (λ (a : Account). (sent_of a.sent c.args.event.serial).retracted) c.in-None.ensures ∙ ap (λ (e : SentEvent). e.retracted) (nothing_sent c.args.event.serial))

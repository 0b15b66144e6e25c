-- It is noted, or only its serial is taken.
use Rattle.std.proofs.Common.{◌+◌, ap, ◌∙◌}
use Rattle.hla_base.specs.Tables.{upd, upd2}
use Rattle.hla_retraction.specs.SentEvents.{SentEvent}
use Rattle.hla_accounts.specs.Accounts.{central_with}
use Rattle.hla_accounts.proofs.AfterSteps.Counts.{on_ok}
use Rattle.hla_accounts.proofs.Sendings.Messages.{receives, kept_as, unkept}
use Rattle.hla_accounts.proofs.accounts.Accounts.number.Goals as goal

pub returns-in-Some-clause-ok : goal.returns-in-Some-clause-ok
returns-in-Some-clause-ok c = on_ok c.note.result (λ noted d. let s = central_with d c.args.self.now in noted d
    ∙ ap (λ (e : SentEvent). record s { serial = upd s.serial c.args.sender (s.serial c.args.sender + 1); sent = upd2 s.sent c.args.sender (s.serial c.args.sender) e })
    (kept_as c.args.stamp c.in-Some.stamp _ (receives c.args.self.now c.args.sender c.args.contents.now) c.in-Some.is c.receivers_of-receivers.ensures)) c.note.ensures.ok

pub returns-in-None-clause-ok : goal.returns-in-None-clause-ok
returns-in-None-clause-ok c d = c.take_serial.ensures d ∙ unkept (central_with d c.args.self.now) c.args.sender c.args.stamp (receives c.args.self.now c.args.sender c.args.contents.now) c.in-None.is c.requires.unsent

use Rattle.hla_accounts.specs.Accounts.{central_with}
use Rattle.hla_verdicts.proofs.Steps.Calls.{event_arrived, removal_arrived, retraction_arrived}
use Rattle.hla_verdicts.proofs.carrying.take.Goals as goal

pub returns-in-Event-clause-ok : goal.returns-in-Event-clause-ok
returns-in-Event-clause-ok c d =
    event_arrived (central_with d c.args.accounts.now) (central_with d c.arrive.new.self) c.args.from c.args.to c.args.carried c.in-Event.event c.in-Event.is (c.requires.may d) (c.arrive.ensures d)

pub returns-in-Removal-clause-ok : goal.returns-in-Removal-clause-ok
returns-in-Removal-clause-ok c d =
    removal_arrived (central_with d c.args.accounts.now) (central_with d c.arrive-in-Removal.new.self) c.args.from c.args.to c.args.carried c.in-Removal.event c.in-Removal.is (c.requires.may d) (c.arrive-in-Removal.ensures d)

pub returns-in_ok-settle-in-Retraction-clause-ok : goal.returns-in_ok-settle-in-Retraction-clause-ok
returns-in_ok-settle-in-Retraction-clause-ok c d =
    retraction_arrived (central_with d c.args.accounts.now) (central_with d c.settle.new.self) c.args.from c.args.to c.args.carried c.in-Retraction.event c.in-Retraction.is (c.requires.may d)
    (c.in_ok-settle-in-Retraction.ensures.ok d)

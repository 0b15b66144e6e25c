-- The caller is told first, and then all.
use Rattle.hla_accounts.proofs.AfterSteps.Counts.{on_ok}
use Rattle.hla_accounts.proofs.AfterSteps.Points.{opening_told}
use Rattle.hla_accounts.proofs.accounts.Accounts.tell_opening.Goals as goal

pub returns-clause-ok : goal.returns-clause-ok
returns-clause-ok c = on_ok c.tell_all.result (λ told d.
    opening_told d c.args.self.now c.tell_all.new.self c.args.federate c.args.label.now c.tell.new.self c.in_ok-own.own c.in_ok-shared.shared c.in_ok-own.ensures.ok c.in_ok-shared.ensures.ok
    (c.in_ok-tell.ensures.ok d) (told d)) c.tell_all.ensures.ok

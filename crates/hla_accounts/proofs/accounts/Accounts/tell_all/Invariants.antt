-- So far those are told whose numbers are below.
use Rattle.hla_accounts.proofs.AfterSteps.Notices.{IsToldBelow}
use Rattle.hla_accounts.proofs.accounts.Accounts.tell_all.Given as goal

abbrev pub invariant-loop-federate : goal.invariant-loop-federate
invariant-loop-federate l = IsToldBelow l.initial.self l.self l.notice l.federate

-- So far it is under way to the numbers below.
use Rattle.hla_accounts.proofs.Sendings.Retractions.{IsOwedBelow}
use Rattle.hla_accounts.proofs.accounts.Accounts.owe.Given as goal

abbrev pub invariant-loop-receiver : goal.invariant-loop-receiver
invariant-loop-receiver l = IsOwedBelow l.initial.self l.self l.event.sender l.event.serial l.receiver

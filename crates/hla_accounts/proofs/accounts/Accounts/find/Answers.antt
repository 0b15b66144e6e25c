-- The bag of the account is asked, if there is one.
use Rattle.std.proofs.Common.{rules}
use Rattle.hla_bags.specs.Bags.{waiting_at}
use Rattle.hla_accounts.proofs.accounts.Accounts.find.Goals as goal

pub returns-in-Some : goal.returns-in-Some
unfolding waiting_at
returns-in-Some c = search rules

pub returns-in-None : goal.returns-in-None
unfolding waiting_at
returns-in-None c = search rules

-- A stamp is tested by its own limit, and by the row where some part goes in time-stamp order.
use Rattle.std.proofs.Common.{◌∙◌, arith}
use Rattle.hla_accounts.specs.Accounts.{account_at}
use Rattle.hla_accounts.proofs.Tests.Refusals.{early_part, no_part, no_stamp}
use Rattle.hla_accounts.proofs.accounts.Accounts.is_bad_stamp.Goals as goal

pub returns-then-is_some_timestamp : goal.returns-then-is_some_timestamp
returns-then-is_some_timestamp c outs is = c.is_early.ensures
    ∙ early_part (account_at c.args.self.now c.args.sender).state c.args.stamp outs c.args.is_some_timestamp c.in-Some.stamp is c.in-Some.is (omega arith) c.if-is_some_timestamp.true

pub returns-else-is_some_timestamp : goal.returns-else-is_some_timestamp
returns-else-is_some_timestamp c outs is =
    no_part (account_at c.args.self.now c.args.sender).state c.args.stamp outs c.args.is_some_timestamp c.in-Some.stamp is c.in-Some.is (omega arith) c.if-is_some_timestamp.false

pub returns-in-None : goal.returns-in-None
returns-in-None c outs is = no_stamp (account_at c.args.self.now c.args.sender).state c.args.stamp outs c.in-None.is

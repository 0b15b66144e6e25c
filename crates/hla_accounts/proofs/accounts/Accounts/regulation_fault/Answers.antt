-- The least entry that bars allow matters only where time and lookahead are within their limits.
use Rattle.std.proofs.Common.{◌≡◌, ◌≤◌, ◌+◌, sym, ap, ◌∙◌, arith}
use Rattle.hla_base.specs.Limits.{max_time}
use Rattle.hla_base.specs.declared.row.TimeRow.{TimeRow}
use Rattle.hla_base.specs.RowRefusals.{first_fault, regulation_tests}
use Rattle.hla_accounts.specs.declared.account.Account.{Account}
use Rattle.hla_accounts.specs.Accounts.{account_at}
use Rattle.hla_accounts.proofs.Tests.Refusals.{entry_tested}
use Rattle.hla_accounts.proofs.accounts.Accounts.regulation_fault.Goals as goal

pub returns-in-Some : goal.returns-in-Some
returns-in-Some c d =
    let whole : c.args.time ≤ max_time → c.args.lookahead ≤ max_time → c.saturating_add.result ≡ c.args.time + c.args.lookahead = λ small little. omega (arith, small, little, c.saturating_add.ensures) in
    c.regulation_fault.ensures ∙ ap (λ (a : Account). first_fault (regulation_tests a.state c.greatest_bar-low.result c.args.time c.args.lookahead)) (sym c.in-Some.ensures)
    ∙ entry_tested d c.args.self.now (account_at c.args.self.now c.args.federate).state c.greatest_bar-low.result c.saturating_add.result c.args.time c.args.lookahead c.greatest_bar-low.ensures.value whole

pub returns-in-None : goal.returns-in-None
returns-in-None c d =
    let whole : c.args.time ≤ max_time → c.args.lookahead ≤ max_time → c.saturating_add.result ≡ c.args.time + c.args.lookahead = λ small little. omega (arith, small, little, c.saturating_add.ensures) in
    c.regulation_fault-in-None.ensures ∙ ap (λ (r : TimeRow). first_fault (regulation_tests r c.greatest_bar-low.result c.args.time c.args.lookahead)) (c.new.ensures ∙ ap (λ (a : Account). a.state) (sym c.in-None.ensures))
    ∙ entry_tested d c.args.self.now (account_at c.args.self.now c.args.federate).state c.greatest_bar-low.result c.saturating_add.result c.args.time c.args.lookahead c.greatest_bar-low.ensures.value whole

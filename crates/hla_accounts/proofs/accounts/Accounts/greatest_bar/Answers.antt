-- One after another the bars are visited.
use Rattle.std.proofs.Common.{◌≡◌, ◌+◌, length, ap, ◌∙◌, arith}
use Rattle.hla_base.specs.Rows.{bar_of}
use Rattle.hla_base.specs.Tables.{greatest}
use Rattle.hla_accounts.specs.Accounts.{account_at}
use Rattle.hla_accounts.proofs.Tests.Entries.{greatest_none, greatest_next}
use Rattle.hla_accounts.proofs.accounts.Accounts.greatest_bar.Goals as goal

pub loop-other-init : goal.loop-other-init
loop-other-init c = (greatest_none c.args.earliest (λ g. bar_of (account_at c.args.self.now g).state), λ x first bars. first)

pub loop-other-preserved : goal.loop-other-preserved
loop-other-preserved c = (
  greatest_next c.loop-other.other c.args.earliest (λ g. bar_of (account_at c.args.self.now g).state) c.loop-other.low c.bar.result c.max-low.result c.loop-other.invariant.0 c.bar.ensures.value c.max-low.ensures,
  λ x first bars. let so_far = c.loop-other.invariant.1 x first bars in omega (arith, so_far, bars, c.bar.ensures.bounded, c.max-low.ensures),
)

pub returns-clause-value : goal.returns-clause-value
returns-clause-value c =
    let facts = c.next_federate-other-end.ensures in
    let end : c.loop-other.other ≡ length c.args.self.now + 1 = omega (arith, facts.number, c.loop-other-test.false, c.loop-other.auto.other-end) in
    c.loop-other.invariant.0 ∙ ap (λ n. greatest n c.args.earliest (λ g. bar_of (account_at c.args.self.now g).state)) end

pub returns-clause-bounded : goal.returns-clause-bounded
returns-clause-bounded c = c.loop-other.invariant.1

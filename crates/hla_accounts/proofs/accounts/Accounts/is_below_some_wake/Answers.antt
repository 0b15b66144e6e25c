-- One after another the numbers are visited.
use Rattle.std.proofs.Common.{◌≡◌, ◌≤◌, ◌<◌, ◌+◌, ◌∙◌, ℕ, length, sym, false, arith}
use Rattle.hla_accounts.specs.Calls.{is_below_wake_of}
use Rattle.hla_accounts.proofs.Tests.Bounds.{visited}
use Rattle.hla_accounts.proofs.Tests.Entries.{some_found, none_found}
use Rattle.hla_accounts.proofs.accounts.Accounts.is_below_some_wake.Goals as goal

pub loop-other-preserved : goal.loop-other-preserved
loop-other-preserved c = visited (λ g. is_below_wake_of c.args.self.now c.args.federate c.args.entry g ≡ false) c.loop-other.other c.loop-other.invariant (sym c.is_below_wake_of.ensures.value ∙ c.if-is_below_wake_of.false)

pub returns-then-is_below_wake_of-clause-value : goal.returns-then-is_below_wake_of-clause-value
returns-then-is_below_wake_of-clause-value c =
    let facts = c.next_federate-other-end.ensures in
    let below : c.loop-other.other < length c.args.self.now + 1 = omega (arith, facts.number, c.loop-other-test.true) in
    sym (some_found c.args.self.now c.args.federate c.args.entry (length c.args.self.now + 1) c.loop-other.other below (sym c.is_below_wake_of.ensures.value ∙ c.if-is_below_wake_of.true))

pub returns-clause-value : goal.returns-clause-value
returns-clause-value c =
    let facts = c.next_federate-other-end.ensures in
    let each : (g : ℕ) → 1 ≤ g → g < length c.args.self.now + 1 → is_below_wake_of c.args.self.now c.args.federate c.args.entry g ≡ false =
    λ g low high. c.loop-other.invariant g low (omega (arith, facts.number, c.loop-other-test.false)) in
    sym (none_found c.args.self.now c.args.federate c.args.entry (length c.args.self.now + 1) each)

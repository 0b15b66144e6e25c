-- One after another the numbers are visited.
use Rattle.std.proofs.Common.{◌≡◌, ◌≤◌, ◌<◌, ◌+◌, ◌∙◌, ℕ, length, refl, sym, true, arith}
use Rattle.hla_accounts.specs.Bounds.{leaves_below}
use Rattle.hla_accounts.proofs.Tests.Bounds.{all_left, one_left, visited}
use Rattle.hla_accounts.proofs.accounts.Accounts.is_below_bound.Goals as goal

pub loop-other-preserved : goal.loop-other-preserved
loop-other-preserved c = visited (λ g. leaves_below c.args.self.now c.args.federate c.args.time g ≡ true) c.loop-other.other c.loop-other.invariant (sym c.leaves_below.ensures ∙ c.if-not-leaves_below.false)

pub returns-then-not-leaves_below : goal.returns-then-not-leaves_below
returns-then-not-leaves_below c =
    let facts = c.next_federate-other-end.ensures in
    let below : c.loop-other.other < length c.args.self.now + 1 = omega (arith, facts.number, c.loop-other-test.true) in
    let broken = one_left c.args.self.now c.args.federate c.args.time (length c.args.self.now + 1) c.loop-other.other below (sym c.leaves_below.ensures ∙ c.if-not-leaves_below.true) in
    rw broken refl

pub returns : goal.returns
returns c =
    let facts = c.next_federate-other-end.ensures in
    let each : (g : ℕ) → 1 ≤ g → g < length c.args.self.now + 1 → leaves_below c.args.self.now c.args.federate c.args.time g ≡ true =
    λ g low high. c.loop-other.invariant g low (omega (arith, facts.number, c.loop-other-test.false)) in
    let all = all_left c.args.self.now c.args.federate c.args.time (length c.args.self.now + 1) each in
    rw all refl

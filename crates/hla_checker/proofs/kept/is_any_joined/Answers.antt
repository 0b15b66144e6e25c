-- Some number is of a joined federate, or none is.
use Rattle.std.proofs.Common.{◌<◌, ◌+◌, ◌∙◌, length, sym, arith, below_more}
use Rattle.hla_accounts.specs.Accounts.{account_at}
use Rattle.hla_object_registry.proofs.Numbers.{any_none, any_at}
use Rattle.hla_checker.proofs.kept.is_any_joined.Goals as goal

pub loop-federate-preserved : goal.loop-federate-preserved
loop-federate-preserved c = below_more _ _ c.loop-federate.invariant (sym c.is_joined.ensures ∙ c.if-is_joined.false)

pub returns-then-is_joined : goal.returns-then-is_joined
returns-then-is_joined c =
    let facts = c.next_federate-federate-end.ensures in
    let below : c.loop-federate.federate < length c.args.accounts.now + 1 = omega (arith, facts.number, c.loop-federate-test.true) in
    sym (any_at (λ f. (account_at c.args.accounts.now f).is_joined) (length c.args.accounts.now + 1) c.loop-federate.federate (sym c.is_joined.ensures ∙ c.if-is_joined.true) below)

pub returns : goal.returns
returns c =
    let facts = c.next_federate-federate-end.ensures in
    sym (any_none (λ f. (account_at c.args.accounts.now f).is_joined) (length c.args.accounts.now + 1) (λ j below. c.loop-federate.invariant j (omega (arith, facts.number, c.loop-federate-test.false))))

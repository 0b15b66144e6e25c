-- One number after another is added or passed over.
use Rattle.std.proofs.Common.{ℕ, Bool, true, refl, sym, ap, ◌∙◌, arith}
use Rattle.hla_base.specs.Tables.{upd}
use Rattle.hla_base.specs.FederateSets.{federate_set}
use Rattle.hla_accounts.specs.Accounts.{account_at}
use Rattle.hla_accounts.proofs.AfterSteps.Notices.{joined_within}
use Rattle.hla_accounts.proofs.Sendings.Messages.{told_none, told_more, told_same, told_all}
use Rattle.hla_accounts.proofs.accounts.Accounts.members.Goals as goal
use Rattle.hla_accounts.proofs.accounts.Accounts.members.Goals.{then-is_joined, else-is_joined}

pub loop-federate-init : goal.loop-federate-init
loop-federate-init c = c.new-members.ensures ∙ told_none (λ f. (account_at c.args.self.now f).is_joined) refl

pub loop-federate-preserved : goal.loop-federate-preserved
loop-federate-preserved c = elim c.if-is_joined.branch [
  | then-is_joined w ↦ ap federate_set w.members-is ∙ w.add.ensures ∙ ap (λ (t : ℕ → Bool). upd t c.loop-federate.federate true) c.loop-federate.invariant
      ∙ told_more (λ f. (account_at c.args.self.now f).is_joined) c.loop-federate.federate (sym c.is_joined.ensures ∙ w.if-is_joined.true)
  | else-is_joined w ↦ ap federate_set w.members-is ∙ c.loop-federate.invariant
      ∙ told_same (λ f. (account_at c.args.self.now f).is_joined) c.loop-federate.federate (sym c.is_joined.ensures ∙ w.if-is_joined.false)
]

pub returns : goal.returns
returns c = c.loop-federate.invariant ∙ told_all (λ f. (account_at c.args.self.now f).is_joined) c.loop-federate.federate
    (λ f is. let l = joined_within c.args.self.now f is in omega (arith, l, c.next_federate-federate-end.ensures.number, c.loop-federate-test.false))

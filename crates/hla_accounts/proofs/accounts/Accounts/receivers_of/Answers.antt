-- One number after another is added or passed over.
use Rattle.std.proofs.Common.{ℕ, Bool, true, sym, ap, ◌∙◌, arith}
use Rattle.hla_base.specs.Tables.{upd}
use Rattle.hla_base.specs.FederateSets.{federate_set}
use Rattle.hla_accounts.proofs.Sendings.Messages.{told_none, told_more, told_same, told_all, receives, receives_none, receives_within}
use Rattle.hla_accounts.proofs.accounts.Accounts.receivers_of.Goals as goal
use Rattle.hla_accounts.proofs.accounts.Accounts.receivers_of.Goals.{then-is_receiver, else-is_receiver}

pub loop-federate-init : goal.loop-federate-init
loop-federate-init c = c.new-receivers.ensures ∙ told_none (receives c.args.self.now c.args.sender c.args.contents.now) (receives_none c.args.self.now c.args.sender c.args.contents.now)

pub loop-federate-preserved : goal.loop-federate-preserved
loop-federate-preserved c = elim c.if-is_receiver.branch [
  | then-is_receiver w ↦ ap federate_set w.receivers-is ∙ w.add.ensures ∙ ap (λ (t : ℕ → Bool). upd t c.loop-federate.federate true) c.loop-federate.invariant
      ∙ told_more (receives c.args.self.now c.args.sender c.args.contents.now) c.loop-federate.federate (sym c.is_receiver.ensures ∙ w.if-is_receiver.true)
  | else-is_receiver w ↦ ap federate_set w.receivers-is ∙ c.loop-federate.invariant
      ∙ told_same (receives c.args.self.now c.args.sender c.args.contents.now) c.loop-federate.federate (sym c.is_receiver.ensures ∙ w.if-is_receiver.false)
]

pub returns : goal.returns
returns c = c.loop-federate.invariant ∙ told_all (receives c.args.self.now c.args.sender c.args.contents.now) c.loop-federate.federate
    (λ f is. let l = receives_within c.args.self.now c.args.sender c.args.contents.now f is in omega (arith, l, c.next_federate-federate-end.ensures.number, c.loop-federate-test.false))

-- One after another those that are joined are told.
use Rattle.std.proofs.Common.{◌∙◌, sym, ap, arith}
use Rattle.hla_base.specs.declared.notice.Notice.{Notice}
use Rattle.hla_machine.specs.Machine.{with_told}
use Rattle.hla_accounts.specs.Accounts.{central_with}
use Rattle.hla_accounts.specs.Notices.{told_alone}
use Rattle.hla_accounts.proofs.AfterSteps.Notices.{tells_none, tells_more, tells_same, tells_all}
use Rattle.hla_accounts.proofs.accounts.Accounts.tell_all.Goals as goal
use Rattle.hla_accounts.proofs.accounts.Accounts.tell_all.Goals.{then-is_joined+in_ok-own+in_ok-tell, else-is_joined}

pub loop-federate-init : goal.loop-federate-init
loop-federate-init c = tells_none c.args.self.now c.args.notice.now

pub loop-federate-preserved : goal.loop-federate-preserved
loop-federate-preserved c = elim c.if-is_joined.branch [
  | then-is_joined+in_ok-own+in_ok-tell w ↦ tells_more c.args.self.now c.loop-federate.self c.if-is_joined.self c.args.notice.now c.loop-federate.federate c.loop-federate.invariant
      (sym c.is_joined.ensures ∙ w.if-is_joined.true)
      (λ d. ap (central_with d) w.self-is ∙ w.in_ok-tell.ensures.ok d ∙ ap (λ (n : Notice). with_told (central_with d c.loop-federate.self) (told_alone c.loop-federate.federate n)) w.in_ok-own.ensures.ok)
  | else-is_joined w ↦ tells_same c.args.self.now c.loop-federate.self c.if-is_joined.self c.args.notice.now c.loop-federate.federate c.loop-federate.invariant
      (sym c.is_joined.ensures ∙ w.if-is_joined.false) w.self-is
]

pub returns-clause-ok : goal.returns-clause-ok
returns-clause-ok c d = tells_all c.args.self.now c.loop-federate.self c.loop-federate.self c.args.notice.now c.loop-federate.federate c.loop-federate.invariant
    (omega (arith, c.next_federate-federate-end.ensures.number, c.loop-federate-test.false)) d

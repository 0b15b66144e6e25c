-- One after another it is under way to those that are told.
use Rattle.std.proofs.Common.{◌∙◌, sym, ap, arith}
use Rattle.hla_accounts.specs.Accounts.{central_with}
use Rattle.hla_accounts.proofs.Sendings.Retractions.{owes_none, owes_size, owes_more, owes_same, owes_all}
use Rattle.hla_accounts.proofs.accounts.Accounts.owe.Goals as goal
use Rattle.hla_accounts.proofs.accounts.Accounts.owe.Goals.{then-is_told+in_ok-add_owed, else-is_told}

pub loop-receiver-init : goal.loop-receiver-init
loop-receiver-init c = owes_none c.args.self.now c.args.event.sender c.args.event.serial

pub add_owed-requires-clause-some : goal.add_owed-requires-clause-some
add_owed-requires-clause-some c = c.loop-receiver.auto.receiver

pub add_owed-requires-clause-within : goal.add_owed-requires-clause-within
add_owed-requires-clause-within c =
    let size = owes_size c.args.self.now c.loop-receiver.self c.loop-receiver.self c.args.event.sender c.args.event.serial c.loop-receiver.receiver c.loop-receiver.invariant in
    omega (arith, size, c.next_federate-receiver-end.ensures.number, c.loop-receiver-test.true)

pub loop-receiver-preserved : goal.loop-receiver-preserved
loop-receiver-preserved c = elim c.if-is_told.branch [
  | then-is_told+in_ok-add_owed w ↦ owes_more c.args.self.now c.loop-receiver.self c.if-is_told.self c.args.event.sender c.args.event.serial c.loop-receiver.receiver c.loop-receiver.invariant
      (sym c.is_told.ensures ∙ w.if-is_told.true) (λ d. ap (central_with d) w.self-is ∙ w.in_ok-add_owed.ensures.ok d)
  | else-is_told w ↦ owes_same c.args.self.now c.loop-receiver.self c.if-is_told.self c.args.event.sender c.args.event.serial c.loop-receiver.receiver c.loop-receiver.invariant
      (sym c.is_told.ensures ∙ w.if-is_told.false) w.self-is
]

pub returns-clause-ok : goal.returns-clause-ok
returns-clause-ok c d = owes_all c.args.self.now c.loop-receiver.self c.loop-receiver.self c.args.event.sender c.args.event.serial c.loop-receiver.receiver c.loop-receiver.invariant
    (omega (arith, c.next_federate-receiver-end.ensures.number, c.loop-receiver-test.false)) d

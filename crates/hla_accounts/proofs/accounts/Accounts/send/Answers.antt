-- The serial is taken, and then the copies are put.
use Rattle.std.proofs.Common.{◌≡◌, ap, ◌∙◌}
use Rattle.hla_machine.specs.Central.{Central, with_copies}
use Rattle.hla_accounts.specs.Accounts.{central_with}
use Rattle.hla_accounts.specs.Sendings.{copy_sent, sent_delivery, noted_stamp, stamp_in_order}
use Rattle.hla_accounts.proofs.AfterSteps.Counts.{on_ok}
use Rattle.hla_accounts.proofs.Sendings.Messages.{sent_so, noted_none, noted_some, copies_unused, serial_used}
use Rattle.hla_accounts.proofs.accounts.Accounts.send.Goals as goal
use Rattle.hla_accounts.proofs.accounts.Accounts.send.Goals.{then-is_deletion, else-is_deletion}

pub put_copies-requires-clause-free : goal.put_copies-requires-clause-free
put_copies-requires-clause-free c = copies_unused c.args.self.now c.number.new.self c.args.sender c.next_serial.result _ _ c.in_ok-number.ensures.ok c.next_serial.ensures.unused

pub put_copies-requires-clause-used : goal.put_copies-requires-clause-used
put_copies-requires-clause-used c = serial_used c.args.self.now c.number.new.self c.args.sender c.next_serial.result _ c.in_ok-number.ensures.ok c.next_serial.ensures.serial

pub returns-clause-ok : goal.returns-clause-ok
returns-clause-ok c = on_ok c.put_copies.result (λ put d out cut.
    let m = c.next_serial.result in let dl = c.sent_delivery.result in
    let s = central_with d c.args.self.now in
    let may : c.if-is_deletion.noted ≡ noted_stamp c.args.is_deletion (stamp_in_order (s.row c.args.sender) c.args.order c.args.stamp) = elim c.if-is_deletion.branch [
      | then-is_deletion w ↦ noted_none c.args.is_deletion _ c.if-is_deletion.noted w.if-is_deletion.true w.noted-is
      | else-is_deletion w ↦ noted_some c.args.is_deletion _ c.if-is_deletion.noted w.if-is_deletion.false (w.noted-is ∙ c.stamp_in_order-stamp.ensures)
    ] in
    put d ∙ ap (λ (s : Central). record s { bag = with_copies s.directory.joined s.bag c.args.sender m (copy_sent dl c.args.contents.items) }) (c.in_ok-number.ensures.ok d)
    ∙ sent_so s c.args.sender c.args.stamp out c.args.contents.items c.args.order c.args.is_deletion cut m c.next_serial.ensures.serial c.as_slice.result.now c.as_slice.ensures.value
    dl (c.sent_delivery.ensures ∙ ap sent_delivery c.stamp_in_order-stamp.ensures) c.if-is_deletion.noted may) c.put_copies.ensures.ok

use Rattle.std.proofs.Common.{◌≡◌, ◌+◌, Bool, cond, true, false, refl, sym, ap, ◌∙◌}
use Rattle.std.specs.List.{list_any}
use mir.Val.{bool_byte}
use Rattle.hla_base.specs.declared.content.HandleValuePair.{HandleValuePair}
use Rattle.hla_catalogue.specs.declared.declared.Order.TheVariants.{Receive, Timestamp}
use Rattle.hla_machine.specs.Directory.{is_of_order, order_of_attribute}
use Rattle.hla_accounts.specs.Accounts.{account_at}
use Rattle.hla_accounts.specs.Sendings.{is_sent_in_order}
use Rattle.hla_verdicts.specs.Kept.{KeptValue, directory_of}
use Rattle.hla_checker.proofs.Sends.SendingTests.{sum_is}
use Rattle.hla_checker.proofs.Sends.Updates.{update_handle_is}
use Rattle.hla_checker.proofs.kept.KeptExecution.update_handle.Goals as goal

byte_is : (b : Bool) → bool_byte b ≡ cond b 1 0
byte_is true = refl
byte_is false = refl

pub returns-then-not-has_order : goal.returns-then-not-has_order
returns-then-not-has_order c =
    let object = c.args.object in
    let now = c.args.self.now in
    let a = account_at now.accounts c.args.federate in
    let received = list_any (λ (v : HandleValuePair). is_of_order Receive (order_of_attribute (directory_of now) object v.handle)) c.args.values.now in
    update_handle_is c.args.federate a.state c.args.stamp object (directory_of now) a.next_serial (a.next_serial + cond received 1 0) c.args.values.now received false (is_sent_in_order a.state Timestamp c.args.stamp)
    refl (sym c.if-not-has_order.true ∙ c.has_order.ensures) refl refl

pub returns : goal.returns
returns c =
    let object = c.args.object in
    let now = c.args.self.now in
    let a = account_at now.accounts c.args.federate in
    let in_order = c.is_sent_in_order.ensures ∙ ap (λ (v : KeptValue). is_sent_in_order (account_at v.accounts c.args.federate).state Timestamp c.args.stamp) c.self.view_is in
    let serial = c.next_serial.ensures.serial ∙ ap (λ (v : KeptValue). (account_at v.accounts c.args.federate).next_serial) c.self.view_is in
    update_handle_is c.args.federate a.state c.args.stamp object (directory_of now) a.next_serial (c.next_serial.result + c.from-before.result) c.args.values.now c.has_order-2.result true true
    c.has_order-2.ensures (sym c.if-not-has_order.false ∙ c.has_order.ensures) (sym c.if-not-is_sent_in_order.false ∙ in_order)
    (sum_is c.next_serial.result c.from-before.result a.next_serial (cond c.has_order-2.result 1 0) serial (c.from-before.ensures ∙ byte_is c.has_order-2.result))

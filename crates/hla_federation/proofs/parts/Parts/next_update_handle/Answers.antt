use Rattle.std.proofs.Common.{◌≡◌, ◌≤◌, ◌+◌, cond, true, false, Bool, None, refl, sym, ap, ◌∙◌, arith}
use mir.Val.{bool_byte}
use Rattle.std.specs.List.{list_any}
use Rattle.hla_base.specs.declared.content.HandleValuePair.{HandleValuePair}
use Rattle.hla_catalogue.specs.declared.declared.Order.TheVariants.{Receive, Timestamp}
use Rattle.hla_machine.specs.Directory.{is_of_order, order_of_attribute}
use Rattle.hla_federation.specs.FederationValue.{FederationValue}
use Rattle.hla_execution.specs.MemberValue.{members_of}
use Rattle.hla_federation.specs.Steps.Sending.{heading_of, handle_under}
use Rattle.hla_federation.specs.Steps.State.{state_of}
use Rattle.hla_federation.proofs.Steps.Foreseeing.{update_handle_at}
use Rattle.hla_federation.proofs.Steps.Updates.{sum_is}
use Rattle.hla_federation.proofs.parts.Parts.next_update_handle.Goals as goal

byte_is : (b : Bool) → bool_byte b ≡ cond b 1 0
byte_is true = refl
byte_is false = refl

byte_few : (b : Bool) → bool_byte b ≤ 1
byte_few true = omega arith
byte_few false = omega arith

pub returns-then-not-has_order : goal.returns-then-not-has_order
returns-then-not-has_order c =
    let object = c.args.object in
    let s = state_of c.args.self.now in
    let f = c.args.federate in
    let none = sym c.has_order.ensures ∙ c.if-not-has_order.true in
    let serial = s.serial f + cond (list_any (λ (v : HandleValuePair). is_of_order Receive (order_of_attribute s.directory object v.handle)) c.args.values.now) 1 0 in
    sym (update_handle_at s.directory f (s.serial f) serial (s.row f) c.args.stamp object c.args.values.now refl
    ∙ ap (λ (b : Bool). cond b (handle_under (heading_of f serial (s.row f) c.args.stamp Timestamp)) None) none)

pub overflow_add-serial : goal.overflow_add-serial
overflow_add-serial c =
    let same = ap (λ (v : FederationValue). (members_of v.members).serial c.args.federate) c.self.view_is in
    let one : c.from-first_count.result ≤ 1 = omega (arith, c.from-first_count.ensures, byte_few c.has_order-2.result) in
    omega (arith, c.next_serial.ensures, same, one, c.requires.serials)

pub returns : goal.returns
returns c =
    let object = c.args.object in
    let s = state_of c.args.self.now in
    let f = c.args.federate in
    let same = ap (λ (v : FederationValue). (members_of v.members).serial f) c.self.view_is in
    let serial = c.next_serial.result + c.from-first_count.result in
    let some = sym c.has_order.ensures ∙ c.if-not-has_order.false in
    let is = sum_is c.next_serial.result c.from-first_count.result (s.serial f) _ (c.next_serial.ensures ∙ same) (c.from-first_count.ensures ∙ byte_is c.has_order-2.result ∙ ap (λ (b : Bool). cond b 1 0) c.has_order-2.ensures) in
    c.handle.ensures ∙ ap handle_under c.heading.ensures
    ∙ sym (update_handle_at s.directory f (s.serial f) serial (s.row f) c.args.stamp object c.args.values.now is
    ∙ ap (λ (b : Bool). cond b (handle_under (heading_of f serial (s.row f) c.args.stamp Timestamp)) None) some)

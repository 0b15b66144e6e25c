use Rattle.std.proofs.Common.{◌≡◌, List, [], Bool, false, length, sym, ap, subst, ◌∙◌, IfOk, IfSome, OnOk}
use Rattle.std.specs.List.{list_any}
use Rattle.hla_base.specs.declared.content.HandleValuePair.{HandleValuePair}
use Rattle.hla_catalogue.specs.declared.declared.Order.TheVariants.{Receive}
use Rattle.hla_base.specs.FederateSets.{federate_set}
use Rattle.hla_machine.specs.Directory.{AnUpdate, is_of_order, is_receiver, part_sent, order_of_attribute}
use Rattle.hla_federation.specs.Steps.Sending.{HasSent, part_to}
use Rattle.hla_federation.specs.Steps.State.{state_of}
use Rattle.hla_federation.proofs.Steps.Pairs.{none_kept}
use Rattle.hla_federation.proofs.Steps.Posting.{sent_nothing, sent_same}
use Rattle.hla_federation.proofs.parts.Parts.post_order.Goals as goal

pub returns-then-not-has_order-clause-count : goal.returns-then-not-has_order-clause-count
returns-then-not-has_order-clause-count c =
    let has : HandleValuePair → Bool = λ (v : HandleValuePair). is_of_order c.args.order (order_of_attribute (state_of c.args.self.now).directory c.args.object v.handle) in
    let none : list_any has c.args.values.now ≡ false = ap (list_any has) (sym c.as_slice.ensures) ∙ sym c.has_order.ensures ∙ c.if-not-has_order.true in
    ap (λ (vs : List HandleValuePair). length (part_sent Receive c.args.object vs)) (sym (none_kept has c.args.values.now none))

pub returns-then-not-has_order-clause-sent : goal.returns-then-not-has_order-clause-sent
returns-then-not-has_order-clause-sent c =
    let now = c.args.self.now in
    let d = (state_of now).directory in
    let f = c.args.heading.sender in
    let has : HandleValuePair → Bool = λ (v : HandleValuePair). is_of_order c.args.order (order_of_attribute d c.args.object v.handle) in
    let none : list_any has c.args.values.now ≡ false = ap (list_any has) (sym c.as_slice.ensures) ∙ sym c.has_order.ensures ∙ c.if-not-has_order.true in
    sent_same f (λ _. []) _ now now (λ h. ap (λ (vs : List HandleValuePair). part_to d c.args.heading c.args.object vs h) (sym (none_kept has c.args.values.now none))) (sent_nothing f now)

pub returns-clause-receivers : goal.returns-clause-receivers
returns-clause-receivers c =
    subst (λ (vs : List HandleValuePair). IfOk c.post_part.result (λ told. IfSome told (λ rs. federate_set rs ≡ is_receiver (state_of c.args.self.now).directory c.args.heading.sender (AnUpdate c.args.object vs))))
    c.in_ok-part.ensures.ok c.post_part.ensures.receivers

pub returns-clause-sent : goal.returns-clause-sent
returns-clause-sent c =
    subst (λ (vs : List HandleValuePair). OnOk c.post_part.result (HasSent c.args.heading.sender (part_to (state_of c.args.self.now).directory c.args.heading c.args.object vs) c.args.self.now c.post_part.new.self))
    c.in_ok-part.ensures.ok c.post_part.ensures.sent

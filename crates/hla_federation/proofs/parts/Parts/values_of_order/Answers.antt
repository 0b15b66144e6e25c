use Rattle.std.proofs.Common.{◌≡◌, Bool, true, sym, ap, ◌∙◌}
use Rattle.std.specs.List.{list_all}
use Rattle.hla_base.specs.declared.content.HandleValuePair.{HandleValuePair}
use Rattle.hla_machine.specs.Directory.{is_of_order, order_of_attribute}
use Rattle.hla_federation.proofs.Steps.Pairs.{all_kept}
use Rattle.hla_federation.proofs.parts.Parts.values_of_order.Goals as goal
use Rattle.hla_federation.specs.Steps.State.{state_of}

pub returns-then-are_of_order-clause-ok : goal.returns-then-are_of_order-clause-ok
returns-then-are_of_order-clause-ok c =
    let has : HandleValuePair → Bool = λ (v : HandleValuePair). is_of_order c.args.order (order_of_attribute (state_of c.args.self.now).directory c.args.object v.handle) in
    let all : list_all has c.args.values.now ≡ true = ap (list_all has) (sym c.as_slice.ensures) ∙ sym c.are_of_order.ensures ∙ c.if-are_of_order.true in
    c.in_ok-same.ensures.ok ∙ sym (all_kept has c.args.values.now all)

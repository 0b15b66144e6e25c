-- Where all values have one order, none has the other.
use Rattle.std.proofs.Common.{Bool, sym, ap, ◌∙◌}
use Rattle.std.specs.List.{list_all}
use Rattle.hla_base.specs.declared.content.HandleValuePair.{HandleValuePair}
use Rattle.hla_catalogue.specs.declared.declared.Order.TheVariants.{Receive, Timestamp}
use Rattle.hla_machine.specs.Directory.{is_of_order, order_of_attribute}
use Rattle.hla_checker.proofs.Sends.ShownValues.{all_kept, none_kept, not_stamped, not_received}
use Rattle.hla_checker.proofs.kept.KeptExecution.parts_of.Goals as goal
use Rattle.hla_verdicts.specs.Kept.{directory_of}

pub returns-then-has_only-clause-received : goal.returns-then-has_only-clause-received
returns-then-has_only-clause-received c =
    let has : HandleValuePair → Bool = λ (v : HandleValuePair). is_of_order Receive (order_of_attribute (directory_of c.args.self.now) c.args.object v.handle) in
    sym (all_kept has c.args.values (ap (list_all has) (sym c.as_slice.ensures) ∙ sym c.has_only.ensures ∙ c.if-has_only.true))

pub returns-then-has_only-clause-stamped : goal.returns-then-has_only-clause-stamped
returns-then-has_only-clause-stamped c =
    let order = λ (v : HandleValuePair). order_of_attribute (directory_of c.args.self.now) c.args.object v.handle in
    let has : HandleValuePair → Bool = λ (v : HandleValuePair). is_of_order Receive (order v) in
    c.new.ensures ∙ sym (none_kept has (λ (v : HandleValuePair). is_of_order Timestamp (order v)) (λ v e. not_stamped (order v) e) c.args.values (ap (list_all has) (sym c.as_slice.ensures) ∙ sym c.has_only.ensures ∙ c.if-has_only.true))

pub returns-then-has_only-2-clause-stamped : goal.returns-then-has_only-2-clause-stamped
returns-then-has_only-2-clause-stamped c =
    let has : HandleValuePair → Bool = λ (v : HandleValuePair). is_of_order Timestamp (order_of_attribute (directory_of c.args.self.now) c.args.object v.handle) in
    sym (all_kept has c.args.values (ap (list_all has) (sym c.as_slice-2.ensures) ∙ sym c.has_only-2.ensures ∙ c.if-has_only-2.true))

pub returns-then-has_only-2-clause-received : goal.returns-then-has_only-2-clause-received
returns-then-has_only-2-clause-received c =
    let order = λ (v : HandleValuePair). order_of_attribute (directory_of c.args.self.now) c.args.object v.handle in
    let has : HandleValuePair → Bool = λ (v : HandleValuePair). is_of_order Timestamp (order v) in
    c.new-then-has_only-2.ensures ∙ sym (none_kept has (λ (v : HandleValuePair). is_of_order Receive (order v)) (λ v e. not_received (order v) e) c.args.values (ap (list_all has) (sym c.as_slice-2.ensures) ∙ sym c.has_only-2.ensures ∙ c.if-has_only-2.true))

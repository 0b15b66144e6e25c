-- One more value is shown, or is not.
use Rattle.std.proofs.Common.{◌∷◌, ◌++◌, [], sym, ap, ◌∙◌}
use Rattle.hla_base.specs.declared.content.HandleValuePair.{HandleValuePair}
use Rattle.hla_catalogue.specs.Lookup.{contains_number}
use Rattle.hla_checker.proofs.Sends.ShownValues.{shown_more, hidden_more}
use Rattle.hla_checker.proofs.contents.add_subscribed.Goals as goal
use Rattle.hla_checker.proofs.contents.add_subscribed.Goals.{then-contains+in_ok-copy+in_ok-push, else-contains}

pub loop-value-preserved : goal.loop-value-preserved
loop-value-preserved c =
    let shows = λ (v : HandleValuePair). contains_number v.handle c.args.subscribed.now in
    let values = c.args.values.now in
    let place = c.loop-value.value-index in
    let before = c.args.shown.now in
    let v = c.value-item.result in
    elim c.if-contains.branch [
      | then-contains+in_ok-copy+in_ok-push w ↦
          w.shown-is ∙ w.in_ok-push.ensures.ok ∙ ap (λ x. c.loop-value.shown ++ x ∷ []) w.in_ok-copy.ensures.ok
          ∙ shown_more shows values place v before c.loop-value.shown c.loop-value-test.true c.value-item.is (sym c.contains.ensures.value ∙ w.if-contains.true) c.loop-value.invariant
      | else-contains w ↦ w.shown-is ∙ hidden_more shows values place v before c.loop-value.shown c.loop-value-test.true c.value-item.is (sym c.contains.ensures.value ∙ w.if-contains.false) c.loop-value.invariant
    ]

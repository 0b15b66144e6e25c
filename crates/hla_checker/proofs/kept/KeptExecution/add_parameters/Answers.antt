-- One more value is shown, or is not.
use Rattle.std.proofs.Common.{◌∷◌, ◌++◌, [], sym, ap, ◌∙◌}
use Rattle.hla_base.specs.declared.content.HandleValuePair.{HandleValuePair}
use Rattle.hla_catalogue.specs.Lookup.{has_parameter}
use Rattle.hla_verdicts.specs.Kept.{KeptValue}
use Rattle.hla_checker.proofs.Sends.ShownValues.{shown_more, hidden_more}
use Rattle.hla_checker.proofs.kept.KeptExecution.add_parameters.Goals as goal
use Rattle.hla_checker.proofs.kept.KeptExecution.add_parameters.Goals.{then-has_parameter+in_ok-copy+in_ok-push, else-has_parameter}

pub loop-value-preserved : goal.loop-value-preserved
loop-value-preserved c =
    let shows = λ (v : HandleValuePair). has_parameter c.args.self.now.catalogue c.args.class v.handle in
    let values = c.args.values.now in
    let place = c.loop-value.value-index in
    let before = c.args.shown.now in
    let v = c.value-item.result in
    let catalogue = sym (ap (λ (kept : KeptValue). has_parameter kept.catalogue c.args.class v.handle) c.self.view_is) in
    elim c.if-has_parameter.branch [
      | then-has_parameter+in_ok-copy+in_ok-push w ↦
          w.shown-is ∙ w.in_ok-push.ensures.ok ∙ ap (λ x. c.loop-value.shown ++ x ∷ []) w.in_ok-copy.ensures.ok
          ∙ shown_more shows values place v before c.loop-value.shown c.loop-value-test.true c.value-item.is (catalogue ∙ sym c.has_parameter.ensures ∙ w.if-has_parameter.true) c.loop-value.invariant
      | else-has_parameter w ↦ w.shown-is ∙ hidden_more shows values place v before c.loop-value.shown c.loop-value-test.true c.value-item.is (catalogue ∙ sym c.has_parameter.ensures ∙ w.if-has_parameter.false) c.loop-value.invariant
    ]

-- What stands before the first hidden value is shown, and that is not.
use Rattle.std.proofs.Common.{Bool, ap, ◌∙◌}
use Rattle.hla_base.specs.declared.content.HandleValuePair.{HandleValuePair}
use Rattle.hla_catalogue.specs.Lookup.{contains_number}
use Rattle.hla_federation.proofs.Steps.Showing.{shown_before, hidden_there}
use Rattle.hla_federation.proofs.parts.Parts.shown_attributes.Goals as goal

pub is_shown-requires-clause-before : goal.is_shown-requires-clause-before
is_shown-requires-clause-before c = λ less.
    let shows : HandleValuePair → Bool = λ (v : HandleValuePair). contains_number v.handle c.args.subscribed.now in
    ap shows c.index-values-place.is
    ∙ shown_before shows c.args.values.now c.args.hidden c.loop-place.place c.index-values-place.result c.requires less

pub is_shown-requires-clause-there : goal.is_shown-requires-clause-there
is_shown-requires-clause-there c = λ same.
    let shows : HandleValuePair → Bool = λ (v : HandleValuePair). contains_number v.handle c.args.subscribed.now in
    ap shows c.index-values-place.is
    ∙ hidden_there shows c.args.values.now c.args.hidden c.loop-place.place c.index-values-place.result c.requires same

use Rattle.std.proofs.Common.{◌≡◌, Bool, true, sym, ap, ◌∙◌}
use Rattle.std.specs.List.{list_all}
use Rattle.hla_base.specs.declared.content.HandleValuePair.{HandleValuePair}
use Rattle.hla_catalogue.specs.Lookup.{has_parameter}
use Rattle.hla_federation.proofs.Steps.Pairs.{all_kept}
use Rattle.hla_federation.proofs.parts.Parts.parameters_for.Goals as goal

pub returns-then-shows_parameters-clause-ok : goal.returns-then-shows_parameters-clause-ok
returns-then-shows_parameters-clause-ok c =
    let shows : HandleValuePair → Bool = λ (v : HandleValuePair). has_parameter c.args.self.now.catalogue c.args.class v.handle in
    let all : list_all shows c.args.values.now ≡ true = ap (list_all shows) (sym c.as_slice.ensures) ∙ sym c.shows_parameters.ensures ∙ c.if-shows_parameters.true in
    c.in_ok-same.ensures.ok ∙ sym (all_kept shows c.args.values.now all)

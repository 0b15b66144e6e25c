-- What is kept comes before the first that does not pass, or passes behind it.
use Rattle.std.proofs.Common.{◌++◌, ◌+◌, drop, filter, sym, ap, ◌∙◌}
use Rattle.std.proofs.lemmas.List.{take_rest}
use Rattle.hla_base.specs.declared.content.HandleValuePair.{HandleValuePair}
use Rattle.hla_catalogue.specs.Lookup.{has_parameter}
use Rattle.hla_checker.proofs.Sends.ShownValues.{cut_first}
use Rattle.hla_checker.proofs.kept.KeptExecution.cut_parameters.Goals as goal

pub returns-clause-ok : goal.returns-clause-ok
returns-clause-ok c =
    let shows = λ (v : HandleValuePair). has_parameter c.args.self.now.catalogue c.args.class v.handle in
    let values = c.args.values.now in
    c.in_ok-shared.ensures.ok ∙ c.in_ok-add_parameters.ensures.ok ∙ ap (λ ys. c.in_ok-shown.shown ++ filter shows ys) (take_rest values (c.args.count + 1)) ∙ ap (λ ys. ys ++ filter shows (drop (c.args.count + 1) values)) c.in_ok-shown.ensures.ok ∙ sym (cut_first shows values c.args.count c.requires.count c.requires.within)

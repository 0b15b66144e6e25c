-- What is kept comes before the first that does not pass, or passes behind it.
use Rattle.std.proofs.Common.{◌++◌, ◌+◌, drop, filter, sym, ap, ◌∙◌}
use Rattle.std.proofs.lemmas.List.{take_rest}
use Rattle.hla_base.specs.declared.content.HandleValuePair.{HandleValuePair}
use Rattle.hla_catalogue.specs.Lookup.{contains_number}
use Rattle.hla_checker.proofs.Sends.ShownValues.{cut_first}
use Rattle.hla_checker.proofs.contents.cut_to_subscribed.Goals as goal

pub returns-clause-ok : goal.returns-clause-ok
returns-clause-ok c =
    let shows = λ (v : HandleValuePair). contains_number v.handle c.args.subscribed.now in
    let values = c.args.values.now in
    c.in_ok-shared.ensures.ok ∙ c.in_ok-add_subscribed.ensures.ok ∙ ap (λ ys. c.in_ok-shown.shown ++ filter shows ys) (take_rest values (c.args.first + 1)) ∙ ap (λ ys. ys ++ filter shows (drop (c.args.first + 1) values)) c.in_ok-shown.ensures.ok ∙ sym (cut_first shows values c.args.first c.requires.count c.requires.within)

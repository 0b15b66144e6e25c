use Rattle.std.proofs.Common.{[], ◌∷◌, ◌++◌, ap, ◌∙◌}
use Rattle.hla_catalogue.specs.Names.{number_named, numbers_of_names}
use Rattle.hla_catalogue.proofs.NameLemmas.{number_added}
use Rattle.hla_catalogue.proofs.names.FirstNumbers.add.Goals as goal

pub returns-clause-ok : goal.returns-clause-ok
returns-clause-ok c =
    let es = c.self.inside.numbers.entries in
    ap numbers_of_names c.in-Ok.ensures.entries ∙ number_added es c.args.name c.args.number (ap (λ m. number_named m c.args.name.items) c.self.view_is ∙ c.requires) ∙ ap (λ m. m ++ (c.args.name.items, c.args.number) ∷ []) c.self.view_is

use Rattle.std.proofs.Common.{ap, ◌∙◌}
use Rattle.hla_catalogue.specs.Names.{number_named}
use Rattle.hla_catalogue.proofs.NameLemmas.{number_found}
use Rattle.hla_catalogue.proofs.names.FirstNumbers.get.Goals as goal

pub returns : goal.returns
returns c = c.copied.ensures ∙ c.get.ensures.value ∙ number_found c.self.inside.numbers.entries c.args.name.now ∙ ap (λ m. number_named m c.args.name.now) c.self.view_is

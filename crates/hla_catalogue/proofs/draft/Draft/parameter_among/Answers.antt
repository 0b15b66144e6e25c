use Rattle.std.proofs.Common.{List, ap, ◌∙◌}
use Rattle.std.specs.List.{find}
use Rattle.std.specs.Option.{option_map}
use Rattle.hla_catalogue.specs.Groups.{declared_number, group_in, is_declaration, name_hash}
use Rattle.hla_catalogue.specs.CatalogueValue.{CatalogueValue}
use Rattle.hla_catalogue.specs.Declaring.{parameter_among}
use Rattle.hla_catalogue.specs.declared.groups.Declared.{Declared}
use Rattle.hla_catalogue.specs.declared.declared.Parameter.{Parameter}
use Rattle.hla_catalogue.proofs.GroupLemmas.{first_numbered}
use Rattle.hla_catalogue.proofs.draft.Draft.parameter_among.Goals as goal

pub returns : goal.returns
returns c =
    let classes = c.args.classes.now in
    let name = c.args.name.now in
    c.first_number.ensures
    ∙ ap (λ (xs : List Parameter). option_map declared_number (find (is_declaration (λ (x : Parameter). x.name) xs name classes) (group_in c.self.inside.parameter_names (name_hash name)))) c.as_slice.ensures
    ∙ ap (λ (ds : List Declared). option_map declared_number (find (is_declaration (λ (x : Parameter). x.name) c.self.inside.parameters name classes) ds)) (c.self.invariant.parameters (name_hash name))
    ∙ first_numbered (λ (a : Parameter). a.class) (λ (a : Parameter). a.name) classes name c.self.inside.parameters
    ∙ ap (λ (t : CatalogueValue). parameter_among t classes name) c.self.view_is

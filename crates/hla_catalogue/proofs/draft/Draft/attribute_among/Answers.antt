use Rattle.std.proofs.Common.{List, ap, ◌∙◌}
use Rattle.std.specs.List.{find}
use Rattle.std.specs.Option.{option_map}
use Rattle.hla_catalogue.specs.Groups.{declared_number, group_in, is_declaration, name_hash}
use Rattle.hla_catalogue.specs.CatalogueValue.{CatalogueValue}
use Rattle.hla_catalogue.specs.Declaring.{attribute_among}
use Rattle.hla_catalogue.specs.declared.groups.Declared.{Declared}
use Rattle.hla_catalogue.specs.declared.declared.Attribute.{Attribute}
use Rattle.hla_catalogue.proofs.GroupLemmas.{first_numbered}
use Rattle.hla_catalogue.proofs.draft.Draft.attribute_among.Goals as goal

pub returns : goal.returns
returns c =
    let classes = c.args.classes.now in
    let name = c.args.name.now in
    c.first_number.ensures
    ∙ ap (λ (xs : List Attribute). option_map declared_number (find (is_declaration (λ (x : Attribute). x.name) xs name classes) (group_in c.self.inside.attribute_names (name_hash name)))) c.as_slice.ensures
    ∙ ap (λ (ds : List Declared). option_map declared_number (find (is_declaration (λ (x : Attribute). x.name) c.self.inside.attributes name classes) ds)) (c.self.invariant.attributes (name_hash name))
    ∙ first_numbered (λ (a : Attribute). a.class) (λ (a : Attribute). a.name) classes name c.self.inside.attributes
    ∙ ap (λ (t : CatalogueValue). attribute_among t classes name) c.self.view_is

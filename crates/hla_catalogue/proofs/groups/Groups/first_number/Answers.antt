use Rattle.std.proofs.Common.{List, [], unwrap_or, sym, ap, ◌∙◌}
use Rattle.std.specs.List.{find}
use Rattle.std.specs.Option.{option_map}
use Rattle.hla_catalogue.specs.Groups.{name_hash, group_in, is_declaration, declared_number}
use Rattle.hla_catalogue.specs.declared.groups.Declared.{Declared}
use Rattle.hla_catalogue.proofs.GroupLemmas.{group_found}
use Rattle.hla_catalogue.proofs.groups.Groups.first_number.Goals as goal

pub returns-in-Some : goal.returns-in-Some
returns-in-Some g c =
    let es = c.self.inside.groups.entries in
    c.first_number.ensures
    ∙ ap (λ (ds : List Declared). option_map declared_number (find (is_declaration g.X.Named.name_of c.args.items.now c.args.name.now c.args.classes.now) ds))
    (ap (λ found. unwrap_or found []) c.in-Some.ensures.value ∙ sym (group_found es c.name_hash.result) ∙ ap (group_in es) c.name_hash.ensures ∙ ap (λ m. group_in m (name_hash c.args.name.now)) c.self.view_is)

pub returns-in-None : goal.returns-in-None
returns-in-None g c =
    let es = c.self.inside.groups.entries in
    ap (λ (ds : List Declared). option_map declared_number (find (is_declaration g.X.Named.name_of c.args.items.now c.args.name.now c.args.classes.now) ds))
    (ap (λ found. unwrap_or found []) c.in-None.ensures.value ∙ sym (group_found es c.name_hash.result) ∙ ap (group_in es) c.name_hash.ensures ∙ ap (λ m. group_in m (name_hash c.args.name.now)) c.self.view_is)

use Rattle.hla_base.specs.Limits.{max_attributes}
use Rattle.std.proofs.Common.{◌+◌, ◌∷◌, [], length, ◌<◌, ap, arith}
use Rattle.std.proofs.lemmas.List.{length-append}
use Rattle.hla_catalogue.specs.Groups.{IsNoted, name_hash}
use Rattle.hla_catalogue.specs.declared.declared.Attribute.{Attribute}
use Rattle.hla_catalogue.specs.CatalogueValue.{CatalogueValue}
use Rattle.hla_catalogue.proofs.GroupLemmas.{declared_added}
use Rattle.hla_catalogue.proofs.draft.Draft.add_attribute.Goals as goal

pub invariant_of-self-in-Ok : goal.invariant_of-self-in-Ok
invariant_of-self-in-Ok c =
    let before = c.self.inside.attributes in
    let kept = c.self.invariant in
    let room : length before < max_attributes = rw (ap (λ (t : CatalogueValue). length t.attributes) c.self.view_is) c.requires in
    let noted : IsNoted c.self.inside.attribute_names c.note.new.self (name_hash c.args.attribute.name) (record { class = c.args.attribute.class; number = length before + 1 }) =
    rw (← c.len.ensures, ← c.as_slice.ensures, ← c.name_hash-hash.ensures) c.in-Ok.ensures.ok in
    rw c.in_ok-push.ensures.ok
    (record {
      objects = kept.objects;
      interactions = kept.interactions;
      attributes = declared_added (λ (a : Attribute). a.class) (λ (a : Attribute). a.name) c.self.inside.attribute_names _ before c.args.attribute kept.attributes noted;
      parameters = kept.parameters;
      few_objects = kept.few_objects;
      few_interactions = kept.few_interactions;
      few_attributes = omega (arith, room, length-append before (c.args.attribute ∷ []));
      few_parameters = kept.few_parameters;
    })

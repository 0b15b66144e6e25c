use Rattle.hla_base.specs.Limits.{max_classes}
use Rattle.std.proofs.Common.{◌∷◌, [], length, ◌<◌, ap, arith}
use Rattle.std.proofs.lemmas.List.{length-append}
use Rattle.hla_catalogue.specs.declared.declared.InteractionClass.{InteractionClass}
use Rattle.hla_catalogue.specs.CatalogueValue.{CatalogueValue}
use Rattle.hla_catalogue.proofs.NameLemmas.{paths_added}
use Rattle.hla_catalogue.proofs.draft.Draft.add_interaction_class.Goals as goal

pub invariant_of-self-in-Ok-note : goal.invariant_of-self-in-Ok-note
invariant_of-self-in-Ok-note c =
    let before = c.self.inside.interaction_classes in
    let kept = c.self.invariant in
    let room : length before < max_classes = rw (ap (λ (t : CatalogueValue). length t.interaction_classes) c.self.view_is) c.requires in
    rw (c.in-Ok-note.ensures.ok, c.in_ok-push.ensures.ok, c.in-Ok.ensures.items, c.as_slice.ensures, c.len.ensures)
    (record {
      objects = kept.objects;
      interactions = paths_added (λ (k : InteractionClass). k.path) c.self.inside.interaction_paths before c.args.class kept.interactions;
      attributes = kept.attributes;
      parameters = kept.parameters;
      few_objects = kept.few_objects;
      few_interactions = omega (arith, room, length-append before (c.args.class ∷ []));
      few_attributes = kept.few_attributes;
      few_parameters = kept.few_parameters;
    })

use Rattle.hla_base.specs.Limits.{max_parameters}
use Rattle.std.proofs.Common.{◌+◌, ◌∷◌, [], length, ◌<◌, ap, arith}
use Rattle.std.proofs.lemmas.List.{length-append}
use Rattle.hla_catalogue.specs.Groups.{IsNoted, name_hash}
use Rattle.hla_catalogue.specs.declared.declared.Parameter.{Parameter}
use Rattle.hla_catalogue.specs.CatalogueValue.{CatalogueValue}
use Rattle.hla_catalogue.proofs.GroupLemmas.{declared_added}
use Rattle.hla_catalogue.proofs.draft.Draft.add_parameter.Goals as goal

pub invariant_of-self-in-Ok : goal.invariant_of-self-in-Ok
invariant_of-self-in-Ok c =
    let before = c.self.inside.parameters in
    let kept = c.self.invariant in
    let room : length before < max_parameters = rw (ap (λ (t : CatalogueValue). length t.parameters) c.self.view_is) c.requires in
    let noted : IsNoted c.self.inside.parameter_names c.note.new.self (name_hash c.args.parameter.name) (record { class = c.args.parameter.class; number = length before + 1 }) =
    rw (← c.len.ensures, ← c.as_slice.ensures, ← c.name_hash-hash.ensures) c.in-Ok.ensures.ok in
    rw c.in_ok-push.ensures.ok
    (record {
      objects = kept.objects;
      interactions = kept.interactions;
      attributes = kept.attributes;
      parameters = declared_added (λ (a : Parameter). a.class) (λ (a : Parameter). a.name) c.self.inside.parameter_names _ before c.args.parameter kept.parameters noted;
      few_objects = kept.few_objects;
      few_interactions = kept.few_interactions;
      few_attributes = kept.few_attributes;
      few_parameters = omega (arith, room, length-append before (c.args.parameter ∷ []));
    })

use Rattle.std.proofs.Common.{ℕ, List, Option, [], ◌∷◌, sym, ap, ◌∙◌}
use Rattle.hla_base.specs.RowRefusals.{first_fault}
use Rattle.hla_catalogue.specs.Lookup.{attribute_named}
use Rattle.hla_machine.specs.declared.service.Service.TheVariants as services
use Rattle.hla_machine.specs.Refusals.{not_found, no_object_class}
use Rattle.hla_verdicts.specs.Kept.{KeptValue, central_of, directory_of}
use Rattle.hla_checker.proofs.Verdicts.LookUps.{called_unchanged, attribute_look_up}
use Rattle.hla_checker.proofs.kept.KeptExecution.judge_attribute_number.Goals as goal

pub returns : goal.returns
returns c =
    let v : KeptValue = record { catalogue = c.self.inside.catalogue; declarations = c.self.inside.declarations; objects = c.self.inside.registry; accounts = c.self.inside.accounts; points = c.self.inside.points } in
    let name = c.args.name.now in
    let found = c.attribute-found.ensures ∙ ap (λ (n : List ℕ). attribute_named v.catalogue c.args.class n) c.as_slice.ensures in
    let refused = c.attribute_name_fault.ensures ∙ ap (λ (n : Option ℕ). first_fault (no_object_class (directory_of c.args.self.now) c.args.class ∷ not_found n ∷ [])) found
    ∙ ap (λ (x : KeptValue). first_fault (no_object_class (directory_of x) c.args.class ∷ not_found (attribute_named v.catalogue c.args.class name) ∷ [])) (sym c.self.view_is) in
    called_unchanged v c.args.self.now c.args.federate (services.GetAttributeHandle name c.args.class) c.attribute_name_fault.result c.args.outcome.now c.args.choice.now c.judge_number.result c.self.view_is c.requires.consistent c.requires.joined refused
    (c.judge_number.ensures (central_of v) c.args.federate (services.GetAttributeHandle name c.args.class) (attribute_look_up (central_of v) c.args.federate name c.attribute-found.result c.args.class found))

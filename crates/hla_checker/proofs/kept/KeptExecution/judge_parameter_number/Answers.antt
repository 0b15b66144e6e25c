use Rattle.std.proofs.Common.{ℕ, List, Option, [], ◌∷◌, sym, ap, ◌∙◌}
use Rattle.hla_base.specs.RowRefusals.{first_fault}
use Rattle.hla_catalogue.specs.Lookup.{parameter_named}
use Rattle.hla_machine.specs.declared.service.Service.TheVariants as services
use Rattle.hla_machine.specs.Refusals.{not_found, no_interaction_class}
use Rattle.hla_verdicts.specs.Kept.{KeptValue, central_of, directory_of}
use Rattle.hla_checker.proofs.Verdicts.LookUps.{called_unchanged, parameter_look_up}
use Rattle.hla_checker.proofs.kept.KeptExecution.judge_parameter_number.Goals as goal

pub returns : goal.returns
returns c =
    let v : KeptValue = record { catalogue = c.self.inside.catalogue; declarations = c.self.inside.declarations; objects = c.self.inside.registry; accounts = c.self.inside.accounts; points = c.self.inside.points } in
    let name = c.args.name.now in
    let found = c.parameter-found.ensures ∙ ap (λ (n : List ℕ). parameter_named v.catalogue c.args.class n) c.as_slice.ensures in
    let refused = c.parameter_name_fault.ensures ∙ ap (λ (n : Option ℕ). first_fault (no_interaction_class (directory_of c.args.self.now) c.args.class ∷ not_found n ∷ [])) found
    ∙ ap (λ (x : KeptValue). first_fault (no_interaction_class (directory_of x) c.args.class ∷ not_found (parameter_named v.catalogue c.args.class name) ∷ [])) (sym c.self.view_is) in
    called_unchanged v c.args.self.now c.args.federate (services.GetParameterHandle name c.args.class) c.parameter_name_fault.result c.args.outcome.now c.args.choice.now c.judge_number.result c.self.view_is c.requires.consistent c.requires.joined refused
    (c.judge_number.ensures (central_of v) c.args.federate (services.GetParameterHandle name c.args.class) (parameter_look_up (central_of v) c.args.federate name c.parameter-found.result c.args.class found))

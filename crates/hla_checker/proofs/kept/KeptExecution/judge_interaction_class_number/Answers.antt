use Rattle.std.proofs.Common.{ℕ, List, Option, [], ◌∷◌, ap, ◌∙◌}
use Rattle.hla_base.specs.RowRefusals.{first_fault}
use Rattle.hla_catalogue.specs.Lookup.{interaction_class_named}
use Rattle.hla_machine.specs.declared.service.Service.TheVariants as services
use Rattle.hla_machine.specs.Refusals.{not_found}
use Rattle.hla_verdicts.specs.Kept.{KeptValue, central_of}
use Rattle.hla_checker.proofs.Verdicts.LookUps.{called_unchanged, interaction_class_look_up}
use Rattle.hla_checker.proofs.kept.KeptExecution.judge_interaction_class_number.Goals as goal

pub returns : goal.returns
returns c =
    let v : KeptValue = record { catalogue = c.self.inside.catalogue; declarations = c.self.inside.declarations; objects = c.self.inside.registry; accounts = c.self.inside.accounts; points = c.self.inside.points } in
    let name = c.args.name.now in
    let found = c.interaction_class-found.ensures ∙ ap (λ (n : List ℕ). interaction_class_named v.catalogue n) c.as_slice.ensures in
    let refused = c.unfound_fault.ensures ∙ ap (λ (n : Option ℕ). first_fault (not_found n ∷ [])) found in
    called_unchanged v c.args.self.now c.args.federate (services.GetInteractionClassHandle name) c.unfound_fault.result c.args.outcome.now c.args.choice.now c.judge_number.result c.self.view_is c.requires.consistent c.requires.joined refused
    (c.judge_number.ensures (central_of v) c.args.federate (services.GetInteractionClassHandle name) (interaction_class_look_up (central_of v) c.args.federate name c.interaction_class-found.result found))

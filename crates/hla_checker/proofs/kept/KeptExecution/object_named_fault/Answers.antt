use Rattle.std.proofs.Common.{sym, true, false, ◌∙◌}
use Rattle.hla_base.specs.Tables.{numbers_below}
use Rattle.hla_machine.specs.Registered.{registry_of}
use Rattle.hla_verdicts.specs.Kept.{KeptValue}
use Rattle.hla_checker.proofs.Verdicts.LookUps.{any_found, none_found, named_refusal}
use Rattle.hla_checker.proofs.kept.KeptExecution.object_named_fault.Goals as goal

pub returns-in-Some : goal.returns-in-Some
returns-in-Some c =
    let v : KeptValue = record { catalogue = c.self.inside.catalogue; declarations = c.self.inside.declarations; objects = c.self.inside.registry; accounts = c.self.inside.accounts; points = c.self.inside.points } in
    named_refusal v c.args.self.now c.args.federate c.args.name.now true c.self.view_is
    (any_found _ (numbers_below (registry_of v.objects).next_object) c.in-Some.field-0 (sym c.object_named.ensures ∙ c.in-Some.is))

pub returns-in-None : goal.returns-in-None
returns-in-None c =
    let v : KeptValue = record { catalogue = c.self.inside.catalogue; declarations = c.self.inside.declarations; objects = c.self.inside.registry; accounts = c.self.inside.accounts; points = c.self.inside.points } in
    named_refusal v c.args.self.now c.args.federate c.args.name.now false c.self.view_is
    (none_found _ (numbers_below (registry_of v.objects).next_object) (sym c.object_named.ensures ∙ c.in-None.is))

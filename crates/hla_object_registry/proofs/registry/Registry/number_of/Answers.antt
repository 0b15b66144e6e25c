use Rattle.std.proofs.Common.{◌+◌, subst, List}
use Rattle.hla_machine.specs.Registered.{Registered}
use Rattle.hla_object_registry.specs.Entries.{IsNumberOf, IsUnused}
use Rattle.hla_object_registry.proofs.NameLemmas.{found_at, missing, none_from}
use Rattle.hla_object_registry.proofs.registry.Registry.number_of.Goals as goal

pub returns-in-Some : goal.returns-in-Some
returns-in-Some c =
    let P : List Registered → Type 0 = λ rs. IsNumberOf rs c.args.name.now (c.in-Some.place + 1) in
    subst P c.self.view_is (found_at c.self.inside.entries.entries c.args.name.now c.in-Some.place c.in-Some.ensures.index c.in-Some.ensures.unique)

pub returns-in-None : goal.returns-in-None
returns-in-None c =
    let P : List Registered → Type 0 = λ rs. IsUnused rs c.args.name.now in
    subst P c.self.view_is (missing c.self.inside.entries.entries c.args.name.now (none_from _ c.in-None.ensures.found))

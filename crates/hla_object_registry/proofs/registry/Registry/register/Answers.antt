use Rattle.std.proofs.Common.{sym, subst, ◌∙◌}
use Rattle.hla_machine.specs.Registered.{registry_of}
use Rattle.hla_object_registry.specs.Entries.{AreOwned}
use Rattle.hla_object_registry.proofs.Owners.{owned_with}
use Rattle.hla_object_registry.proofs.EntryLemmas.{entry_added, one_longer}
use Rattle.hla_object_registry.proofs.NameLemmas.{entry_inserted_last}
use Rattle.hla_object_registry.proofs.registry.Registry.register.Goals as goal

pub invariant_of-self-2 : goal.invariant_of-self-2
invariant_of-self-2 c =
    let added = c.in-Ok.ensures.entries ∙ entry_inserted_last c.self.inside.entries.entries c.args.self.now c.args.name c.into_vec.result _ c.self.view_is c.into_vec.ensures c.requires.unused in
    record {
      few = one_longer c.self.inside.entries.entries c.insert.new.self.entries c.args.self.now _ _ c.self.view_is c.requires.few added;
      owned = subst AreOwned
          (sym (entry_added c.self.inside.entries.entries c.insert.new.self.entries c.args.self.now c.into_vec.result c.args.name c.args.class c.args.owner c.args.attributes c.of.result c.new.result c.self.view_is c.into_vec.ensures added c.of.ensures c.new.ensures))
          (owned_with (registry_of c.args.self.now) c.args.class c.args.name c.args.owner c.args.attributes (subst (λ rs. AreOwned (registry_of rs)) c.self.view_is c.self.invariant.owned) c.requires.some);
    }

pub returns-clause-registered : goal.returns-clause-registered
returns-clause-registered c =
    entry_added c.self.inside.entries.entries c.insert.new.self.entries c.args.self.now c.into_vec.result c.args.name c.args.class c.args.owner c.args.attributes c.of.result c.new.result c.self.view_is c.into_vec.ensures
    (c.in-Ok.ensures.entries ∙ entry_inserted_last c.self.inside.entries.entries c.args.self.now c.args.name c.into_vec.result _ c.self.view_is c.into_vec.ensures c.requires.unused) c.of.ensures c.new.ensures

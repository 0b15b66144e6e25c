use Rattle.std.proofs.Common.{length, false, ap, refl, sym, subst, ◌∙◌, arith}
use Rattle.hla_base.specs.Tables.{upd}
use Rattle.hla_machine.specs.Registered.{registry_of}
use Rattle.hla_object_registry.specs.Entries.{registered_objects, AreOwned}
use Rattle.hla_object_registry.proofs.EntryLemmas.{still_few, place_within, entry_deleted}
use Rattle.hla_object_registry.proofs.Owners.{owned_changed}
use Rattle.hla_object_registry.proofs.registry.Registry.delete.Goals as goal

pub index_mut-entry-requires : goal.index_mut-entry-requires
index_mut-entry-requires c = place_within c.self.inside.entries.entries c.args.self.now c.args.object c.self.view_is c.requires.some c.requires.registered

pub invariant_of-self : goal.invariant_of-self
invariant_of-self c =
    let h = c.args.object in
    let es = c.self.inside.entries.entries in
    record {
      few = still_few c.self.inside.entries.entries _ _ c.self.invariant.few;
      owned = subst AreOwned (sym (entry_deleted es h c.index_mut-entry.result.now c.requires.some (place_within es c.args.self.now h c.self.view_is c.requires.some c.requires.registered) c.index_mut-entry.ensures.value))
          (owned_changed (registry_of (registered_objects es)) h _ c.self.invariant.owned refl c.requires.some (omega (arith, ap length c.self.view_is, c.requires.registered)));
    }

pub returns : goal.returns
returns c =
    let h = c.args.object in
    entry_deleted c.self.inside.entries.entries h c.index_mut-entry.result.now c.requires.some
    (place_within c.self.inside.entries.entries c.args.self.now h c.self.view_is c.requires.some c.requires.registered)
    c.index_mut-entry.ensures.value
    ∙ ap (λ rs. record (registry_of rs) { object = upd (registry_of rs).object h (record ((registry_of rs).object h) { exists = false }) }) c.self.view_is

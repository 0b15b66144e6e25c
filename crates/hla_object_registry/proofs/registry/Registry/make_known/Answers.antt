use Rattle.std.proofs.Common.{true, ap, sym, subst, ◌∙◌}
use Rattle.hla_base.specs.Tables.{upd2}
use Rattle.hla_machine.specs.Registered.{registry_of}
use Rattle.hla_object_registry.specs.Entries.{AreOwned}
use Rattle.hla_object_registry.proofs.EntryLemmas.{still_few, place_within, entry_known}
use Rattle.hla_object_registry.proofs.registry.Registry.make_known.Goals as goal

pub index_mut-entry-requires : goal.index_mut-entry-requires
index_mut-entry-requires c = place_within c.self.inside.entries.entries c.args.self.now c.args.object c.self.view_is c.requires.object c.requires.registered

pub invariant_of-self : goal.invariant_of-self
invariant_of-self c =
    let h = c.args.object in
    let f = c.args.federate in
    record {
      few = still_few c.self.inside.entries.entries _ _ c.self.invariant.few;
      owned = subst AreOwned (sym (entry_known c.self.inside.entries.entries h c.index_mut-entry.result.now c.requires.object
          (place_within c.self.inside.entries.entries c.args.self.now h c.self.view_is c.requires.object c.requires.registered)
          c.index_mut-entry.ensures.value c.insert.new.self f c.insert.ensures)) c.self.invariant.owned;
    }

pub returns : goal.returns
returns c =
    let h = c.args.object in
    let f = c.args.federate in
    entry_known c.self.inside.entries.entries h c.index_mut-entry.result.now c.requires.object
    (place_within c.self.inside.entries.entries c.args.self.now h c.self.view_is c.requires.object c.requires.registered)
    c.index_mut-entry.ensures.value c.insert.new.self f c.insert.ensures
    ∙ ap (λ rs. record (registry_of rs) { known = upd2 (registry_of rs).known h f true }) c.self.view_is

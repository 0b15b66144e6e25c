use Rattle.std.proofs.Common.{◌<◌, length, ap, sym, subst, ◌∙◌, arith}
use Rattle.hla_machine.specs.Registered.{registry_of}
use Rattle.hla_object_registry.specs.Entries.{AreOwned}
use Rattle.hla_object_registry.specs.Queries.{without_owned}
use Rattle.hla_object_registry.proofs.EntryLemmas.{length-registered, entry_withdrawn}
use Rattle.hla_object_registry.proofs.Changes.{all_withdrawn}
use Rattle.hla_object_registry.proofs.registry.Registry.delete_owned_by.Goals as goal

pub invariant_of-self : goal.invariant_of-self
invariant_of-self c =
    let end = length-registered c.self.inside.entries.entries in
    record {
      few = omega (arith, c.self.invariant.few, c.loop-place.invariant.length_same, length-registered c.loop-place.self-inside.entries.entries, end);
      owned = subst AreOwned (sym (all_withdrawn c.args.federate c.loop-place.place _ _ c.loop-place.invariant (omega (arith, c.loop-place-test.false, c.len-place-end.ensures.len, end)))) c.self.invariant.owned;
    }

pub index_mut-entry-requires : goal.index_mut-entry-requires
index_mut-entry-requires c =
    omega (arith, c.loop-place-test.true, c.len-place-end.ensures.len, c.loop-place.invariant.length_same, length-registered c.loop-place.self-inside.entries.entries, length-registered c.self.inside.entries.entries)

pub loop-place-preserved : goal.loop-place-preserved
loop-place-preserved c =
    let es = c.loop-place.self-inside.entries.entries in
    let within : c.loop-place.place < length es = omega (arith, c.loop-place-test.true, c.len-place-end.ensures.len, c.loop-place.invariant.length_same, length-registered es, length-registered c.self.inside.entries.entries) in
    entry_withdrawn c.args.federate c.loop-place.place c.self.inside.entries.entries es c.index_mut-entry.result.now c.index_mut-entry.ensures.value within c.loop-place.invariant

pub returns : goal.returns
returns c =
    all_withdrawn c.args.federate c.loop-place.place _ _ c.loop-place.invariant (omega (arith, c.loop-place-test.false, c.len-place-end.ensures.len, length-registered c.self.inside.entries.entries))
    ∙ ap (λ rs. without_owned (registry_of rs) c.args.federate) c.self.view_is

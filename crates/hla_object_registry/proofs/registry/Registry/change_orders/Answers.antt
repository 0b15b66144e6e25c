use Rattle.std.proofs.Common.{◌≡◌, ℕ, ◌-◌, List, slice_get, Option, Some, Result, Ok, Err, OnOk, OnErr, ap, sym, subst, ◌∙◌}
use Rattle.indexmap.specs.IndexMap.{set_value_at}
use Rattle.hla_base.specs.Tables.{upd}
use Rattle.hla_catalogue.specs.declared.declared.Order.{Order}
use Rattle.hla_orders.specs.Orders.{orders_given}
use Rattle.std.specs.Map.{values_of}
use Rattle.hla_object_registry.specs.declared.entry.Entry.{Entry}
use Rattle.hla_object_registry.specs.Queries.{with_orders}
use Rattle.hla_machine.specs.Registered.{registry_of}
use Rattle.hla_object_registry.specs.Entries.{registered_objects, AreOwned}
use Rattle.hla_object_registry.proofs.EntryLemmas.{Entries, still_few, place_within, entry_reordered, entry_orders, entry_same}
use Rattle.hla_object_registry.proofs.registry.Registry.change_orders.Goals as goal

either : {X E A B C : Type 0} (r : Result X E) → OnOk r A → OnErr r B → (A → C) → (B → C) → C
either (Ok x) a b done refused = done a
either (Err e) a b done refused = refused b

on_ok : {X E A B : Type 0} (r : Result X E) → (A → B) → OnOk r A → OnOk r B
on_ok (Ok x) f a = f a
on_ok (Err e) f a = a

on_err : {X E A B : Type 0} (r : Result X E) → (A → B) → OnErr r A → OnErr r B
on_err (Ok x) f a = a
on_err (Err e) f a = f a

pub index_mut-entry-requires : goal.index_mut-entry-requires
index_mut-entry-requires c = place_within c.self.inside.entries.entries c.args.self.now c.args.object c.self.view_is c.requires.some c.requires.registered

-- the entry where room was refused is what it was
back : (es : Entries) (h : ℕ) (v : Entry) (orders : List (Option Order)) → slice_get (values_of es) (h - 1) ≡ Some v → orders ≡ v.orders → set_value_at es (h - 1) (record v { orders = orders }) ≡ es
back es h v orders at same = ap (λ (o : List (Option Order)). set_value_at es (h - 1) (record v { orders = o })) same ∙ entry_same es (h - 1) v at

pub invariant_of-self : goal.invariant_of-self
invariant_of-self c =
    let h = c.args.object in
    let es = c.self.inside.entries.entries in
    let v = c.index_mut-entry.result.now in
    let place = place_within es c.args.self.now h c.self.view_is c.requires.some c.requires.registered in
    record {
      few = still_few es _ _ c.self.invariant.few;
      owned = either c.give.result c.give.ensures.ok c.give.ensures.unchanged
          (λ given. subst AreOwned (sym (entry_reordered es h v c.requires.some place c.index_mut-entry.ensures.value c.give.new.self _ given)) c.self.invariant.owned)
          (λ same. subst (λ (xs : Entries). AreOwned (registry_of (registered_objects xs))) (sym (back es h v c.give.new.self c.index_mut-entry.ensures.value same)) c.self.invariant.owned);
    }

pub returns-clause-ok : goal.returns-clause-ok
returns-clause-ok c =
    let h = c.args.object in
    let es = c.self.inside.entries.entries in
    let v = c.index_mut-entry.result.now in
    let place = place_within es c.args.self.now h c.self.view_is c.requires.some c.requires.registered in
    on_ok c.give.result (λ given.
    entry_reordered es h v c.requires.some place c.index_mut-entry.ensures.value c.give.new.self _ given
    ∙ ap (λ (t : ℕ → Option Order). record (registry_of (registered_objects es)) { orders = upd (registry_of (registered_objects es)).orders h (orders_given t c.args.attributes.now c.args.order) })
    (entry_orders es h v c.requires.some place c.index_mut-entry.ensures.value)
    ∙ ap (λ rs. with_orders (registry_of rs) h c.args.attributes.now c.args.order) c.self.view_is) c.give.ensures.ok

pub returns-clause-unchanged : goal.returns-clause-unchanged
returns-clause-unchanged c =
    let es = c.self.inside.entries.entries in
    on_err c.give.result (λ same. ap registered_objects (back es c.args.object c.index_mut-entry.result.now c.give.new.self c.index_mut-entry.ensures.value same) ∙ c.self.view_is) c.give.ensures.unchanged

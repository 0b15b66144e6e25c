-- The objects of a registry's entries
use Rattle.hla_base.specs.Limits.{max_objects}
use Rattle.std.proofs.Common.{◌≡◌, ℕ, zero, suc, ◌+◌, ◌-◌, ◌<◌, ◌≤◌, List, [], ◌∷◌, ◌++◌, length, set, slice_get, eqb, not, ◌&&◌, Bool, true, false, Some, Option, unwrap_or, refl, sym, ap, subst, ◌∙◌, arith}
use Rattle.std.proofs.lemmas.List.{length-append}
use Rattle.std.specs.Map.{values_of}
use Rattle.hla_base.specs.Tables.{upd, upd2}
use Rattle.hla_catalogue.specs.declared.declared.Order.{Order}
use Rattle.hla_orders.specs.Orders.{order_at}
use Rattle.hla_machine.specs.Registered.{Registered, unregistered_object, item_at, is_in, registry_of}
use Rattle.hla_object_registry.proofs.Items.{item_numbered_within}
use Rattle.hla_object_registry.proofs.Changes.{one_more, one_known, one_changed, one_reordered, IsWithdrawn, object_after_withdrawal, one_withdrawn}
use Rattle.std.specs.Option.{option_map}
use Rattle.std.specs.declared.vec.Vec.{Vec}
use Rattle.std.specs.declared.alloc.Global.{Global}
use Rattle.indexmap.specs.IndexMap.{set_value_at}
use Rattle.hla_object_registry.specs.declared.entry.Entry.{Entry}
use Rattle.hla_object_registry.specs.Queries.{with_registered}
use Rattle.hla_object_registry.specs.Entries.{registered_objects, registered_object}

abbrev pub Entries : Type 0
Entries = List (Vec ℕ Global × Entry)

pub length-registered : (es : Entries) → length (registered_objects es) ≡ length es
length-registered [] = refl
length-registered (e ∷ es) = ap suc (length-registered es)

pub registered-append : (es : Entries) (k : Vec ℕ Global) (v : Entry) → registered_objects (es ++ (k, v) ∷ []) ≡ registered_objects es ++ registered_object (k, v) ∷ []
registered-append [] k v = refl
registered-append (e ∷ es) k v = ap (λ r. registered_object e ∷ r) (registered-append es k v)

pub slice_get-registered : (es : Entries) (i : ℕ) → option_map registered_object (slice_get es i) ≡ slice_get (registered_objects es) i
slice_get-registered [] i = refl
slice_get-registered (e ∷ es) zero = refl
slice_get-registered (e ∷ es) (suc i) = slice_get-registered es i

-- an entry that changes, its key staying
pub registered-set : (es : Entries) (i : ℕ) (k : Vec ℕ Global) (v w : Entry) → slice_get es i ≡ Some (k, v) → registered_objects (set_value_at es i w) ≡ set (registered_objects es) i (registered_object (k, w))
registered-set [] i k v w at = cc
registered-set (e ∷ es) zero k v w at = let same : e ≡ (k, v) = cc in ap (λ (x : Vec ℕ Global × Entry). registered_object (x.0, w) ∷ registered_objects es) same
registered-set (e ∷ es) (suc i) k v w at = ap (λ r. registered_object e ∷ r) (registered-set es i k v w at)

length-set_value_at : (es : Entries) (i : ℕ) (w : Entry) → length (set_value_at es i w) ≡ length es
length-set_value_at [] i w = refl
length-set_value_at (e ∷ es) zero w = refl
length-set_value_at (e ∷ es) (suc i) w = ap suc (length-set_value_at es i w)

pub still_few : (es : Entries) (i : ℕ) (w : Entry) → length es ≤ max_objects → length (set_value_at es i w) ≤ max_objects
still_few es i w few = omega (arith, few, length-set_value_at es i w)

-- the key of a value
key_of_value : (es : Entries) (i : ℕ) (v : Entry) → slice_get (values_of es) i ≡ Some v → (k : Vec ℕ Global) × (slice_get es i ≡ Some (k, v))
key_of_value [] i v at = cc
key_of_value (e ∷ es) zero v at = let same : e.1 ≡ v = cc in (e.0, ap (λ (w : Entry). Some (e.0, w)) same)
key_of_value (e ∷ es) (suc i) v at = key_of_value es i v at

-- the place of an object in the list
pub place_within : (es : Entries) (rs : List Registered) (h : ℕ) → registered_objects es ≡ rs → 0 < h → h < length rs + 1 → h - 1 < length es
place_within es rs h view some within = omega (arith, within, ap length view, length-registered es)

module _ (es : Entries) (h : ℕ) (v : Entry) (some : 0 < h) (within : h - 1 < length es) (at : slice_get (values_of es) (h - 1) ≡ Some v) where
  key : Vec ℕ Global
  key = (key_of_value es (h - 1) v at).0

  is_there : slice_get es (h - 1) ≡ Some (key, v)
  unfolding key
  is_there = (key_of_value es (h - 1) v at).1

  item_there : item_at unregistered_object (registered_objects es) h ≡ registered_object (key, v)
  item_there = ap (λ o. unwrap_or o unregistered_object) (item_numbered_within (registered_objects es) h (λ z. absurd (omega arith)) ∙ sym (slice_get-registered es (h - 1)) ∙ ap (option_map registered_object) is_there)

  short : h ≤ length (registered_objects es)
  short = omega (arith, within, length-registered es)

  pub entry_known : (flags : List Bool) (f : ℕ) → is_in flags ≡ upd (is_in v.known) f true
      → registry_of (registered_objects (set_value_at es (h - 1) (record v { known = flags }))) ≡ record (registry_of (registered_objects es)) { known = upd2 (registry_of (registered_objects es)).known h f true }
  entry_known flags f same =
      ap registry_of (registered-set es (h - 1) key v (record v { known = flags }) is_there ∙ ap (λ (r : Registered). set (registered_objects es) (h - 1) (record r { known = flags })) (sym item_there))
      ∙ one_known (registered_objects es) h some short flags f (same ∙ ap (λ (r : Registered). upd (is_in r.known) f true) (sym item_there))

  pub entry_deleted : registry_of (registered_objects (set_value_at es (h - 1) (record v { exists = false })))
      ≡ record (registry_of (registered_objects es)) { object = upd (registry_of (registered_objects es)).object h (record ((registry_of (registered_objects es)).object h) { exists = false }) }
  entry_deleted =
      ap registry_of (registered-set es (h - 1) key v (record v { exists = false }) is_there ∙ ap (λ (r : Registered). set (registered_objects es) (h - 1) (record r { object = record r.object { exists = false } })) (sym item_there))
      ∙ one_changed (registered_objects es) h some short (record (item_at unregistered_object (registered_objects es) h).object { exists = false })

  pub entry_reordered : (orders : List (Option Order)) (given : ℕ → Option Order) → order_at orders ≡ given
      → registry_of (registered_objects (set_value_at es (h - 1) (record v { orders = orders }))) ≡ record (registry_of (registered_objects es)) { orders = upd (registry_of (registered_objects es)).orders h given }
  entry_reordered orders given same =
      ap registry_of (registered-set es (h - 1) key v (record v { orders = orders }) is_there ∙ ap (λ (r : Registered). set (registered_objects es) (h - 1) (record r { orders = orders })) (sym item_there))
      ∙ one_reordered (registered_objects es) h some short orders given same

  -- what the entry gives for an attribute is what the table says
  pub entry_orders : order_at v.orders ≡ (registry_of (registered_objects es)).orders h
  entry_orders = ap (λ (r : Registered). order_at r.orders) (sym item_there)

-- an entry that is written what it has
pub entry_same : (es : Entries) (i : ℕ) (v : Entry) → slice_get (values_of es) i ≡ Some v → set_value_at es i v ≡ es
entry_same [] i v at = cc
entry_same (e ∷ es) zero v at = let same : e.1 ≡ v = cc in ap (λ (w : Entry). (e.0, w) ∷ es) (sym same)
entry_same (e ∷ es) (suc i) v at = ap (λ r. e ∷ r) (entry_same es i v at)

-- one more entry
pub one_longer : (es new : Entries) (rs : List Registered) (k : Vec ℕ Global) (v : Entry) → registered_objects es ≡ rs → length rs + 1 ≤ max_objects → new ≡ es ++ (k, v) ∷ [] → length new ≤ max_objects
one_longer es new rs k v view room added = omega (arith, room, ap length view, length-registered es, ap length added, length-append es ((k, v) ∷ []))

pub entry_added : (es new : Entries) (rs : List Registered) (k : Vec ℕ Global) (name : List ℕ) (class owner : ℕ) (attributes : List ℕ) (flags : List Bool) (orders : List (Option Order)) → registered_objects es ≡ rs → k.items ≡ name
    → new ≡ es ++ (k, record { class = class; owner = owner; attributes = attributes; exists = true; known = flags; orders = orders }) ∷ [] → is_in flags ≡ upd (λ _. false) owner true → orders ≡ []
    → registry_of (registered_objects new) ≡ with_registered (registry_of rs) class name owner attributes
entry_added es new rs k name class owner attributes flags orders view same added known none =
    let x : List ℕ → Registered = λ n. record { object = record { class = class; name = n; owner = owner; attributes = attributes; exists = true }; known = flags; orders = orders } in
    ap (λ l. registry_of (registered_objects l)) added
    ∙ ap registry_of (registered-append es k _ ∙ (λ i. view i ++ x (same i) ∷ []))
    ∙ one_more rs (x name) owner known none

-- one more entry is withdrawn
pub entry_withdrawn : (f n : ℕ) (old new : Entries) (v : Entry) → slice_get (values_of new) n ≡ Some v → n < length new → IsWithdrawn f n (registered_objects old) (registered_objects new)
    → IsWithdrawn f (n + 1) (registered_objects old) (registered_objects (set_value_at new n (record v { exists = v.exists && not (eqb v.owner f) })))
entry_withdrawn f n old new v at within before =
    let back : n ≡ suc n - 1 = omega arith in
    let there : slice_get (values_of new) (suc n - 1) ≡ Some v = subst (λ m. slice_get (values_of new) m ≡ Some v) back at in
    let k = key_of_value new n v at in
    let x : item_at unregistered_object (registered_objects new) (suc n) ≡ registered_object (k.0, v) = ap (λ o. unwrap_or o unregistered_object) (item_numbered_within (registered_objects new) (suc n) (λ z. absurd (omega arith)) ∙ ap (slice_get (registered_objects new)) (sym back) ∙ sym (slice_get-registered new n) ∙ ap (option_map registered_object) k.1) in
    subst (IsWithdrawn f (n + 1) (registered_objects old)) (ap (λ (r : Registered). set (registered_objects new) n (object_after_withdrawal f r)) x ∙ sym (registered-set new n k.0 v _ k.1))
    (one_withdrawn f n (registered_objects old) (registered_objects new) before (omega (arith, within, length-registered new)))

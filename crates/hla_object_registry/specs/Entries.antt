-- How a registry keeps its objects
use Rattle.std.specs.Prelude.{◌≡◌, ℕ, ◌+◌, ◌-◌, ◌<◌, ◌≤◌, true, false, List, [], ◌∷◌, length, slice_index_or}
use Rattle.std.specs.Str.{bytes_eq}
use Rattle.std.specs.declared.vec.Vec.{Vec}
use Rattle.std.specs.declared.alloc.Global.{Global}
use Rattle.hla_base.specs.Limits.{max_objects}
use Rattle.hla_machine.specs.Registered.{Registered, RegistryValue, unregistered_object, registry_of}
use Rattle.hla_object_registry.specs.declared.entry.Entry.{Entry}

-- the object of an entry, whose key is its name
abbrev pub registered_object : Vec ℕ Global × Entry → Registered
registered_object e = record {
  object = record { class = e.1.class; name = e.0.items; owner = e.1.owner; attributes = e.1.attributes; exists = e.1.exists };
  known = e.1.known;
  orders = e.1.orders;
}

abbrev pub registered_objects : List (Vec ℕ Global × Entry) → List Registered
registered_objects [] = []
registered_objects (e ∷ es) = registered_object e ∷ registered_objects es

-- ---- names
abbrev pub name_at : List Registered → ℕ → List ℕ
name_at objects k = (slice_index_or objects k unregistered_object).object.name

-- no object has the name
abbrev pub IsUnused : List Registered → List ℕ → Type 0
IsUnused objects name = (k : ℕ) → k < length objects → bytes_eq (name_at objects k) name ≡ false

-- the one object of that name has the number
pub record IsNumberOf (objects : List Registered) (name : List ℕ) (h : ℕ) : Type 0 where
  pub some : 0 < h
  pub within : h ≤ length objects
  pub named : bytes_eq (name_at objects (h - 1)) name ≡ true
  pub only : (k : ℕ) → k < length objects → bytes_eq (name_at objects k) name ≡ true → k + 1 ≡ h

-- ---- what a registry keeps
-- each object has an owner; numbers of federates begin with 1
abbrev pub AreOwned : RegistryValue → Type 0
AreOwned r = (h : ℕ) → 0 < h → h < r.next_object → 0 < (r.object h).owner

pub record AreEntriesKept (es : List (Vec ℕ Global × Entry)) : Type 0 where
  pub few : length es ≤ max_objects
  pub owned : AreOwned (registry_of (registered_objects es))

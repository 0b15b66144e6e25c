-- The objects of a directory as a list by number: what contracts see of a registry, and the tables that it stands for
use Rattle.std.specs.Prelude.{ℕ, ◌+◌, Bool, false, Option, None, List, [], length, unwrap_or}
use Rattle.hla_catalogue.specs.Lookup.{item_numbered}
use Rattle.hla_catalogue.specs.declared.declared.Order.{Order}
use Rattle.hla_orders.specs.Orders.{order_at}
use Rattle.hla_machine.specs.Directory.{Object, no_object}

-- an object that was registered, and a flag for each federate in the order of their numbers: is it known there
pub record Registered : Type 0 where
  pub object : Object
  pub known : List Bool
  pub orders : List (Option Order)  -- of its attributes by number, where they were changed

abbrev pub unregistered_object : Registered
unregistered_object = record { object = no_object; known = []; orders = [] }

pub record RegistryValue : Type 0 where
  pub next_object : ℕ  -- the number of the object that is registered next; numbers begin with 1
  pub object : ℕ → Object
  pub known : ℕ → ℕ → Bool  -- to which federates an object is known, deleted or not
  pub orders : ℕ → ℕ → Option Order  -- in which order updates of an object's attribute go, where it was changed

-- the item with a number, counted from 1, and d where there is none
abbrev pub item_at : {X : Type 0} → X → List X → ℕ → X
item_at d xs n = unwrap_or (item_numbered xs n) d

-- is a federate in a set of federates
abbrev pub is_in : List Bool → ℕ → Bool
is_in flags federate = item_at false flags federate

-- the tables of the objects that were registered, in the order of their numbers
abbrev pub registry_of : List Registered → RegistryValue
registry_of objects = record {
  next_object = length objects + 1;
  object = λ h. (item_at unregistered_object objects h).object;
  known = λ h f. is_in (item_at unregistered_object objects h).known f;
  orders = λ h a. order_at (item_at unregistered_object objects h).orders a;
}

-- no object was registered
abbrev pub new_registry : RegistryValue
new_registry = record { next_object = 1; object = λ _. no_object; known = λ _ _. false; orders = λ _ _. None }

-- What is asked of a registry of objects, and what services do to it
use Rattle.std.specs.Prelude.{ℕ, ◌+◌, eqb, not, ◌&&◌, Bool, true, Option, List, filter, find}
use Rattle.std.specs.List.{list_any}
use Rattle.std.specs.Str.{bytes_eq}
use Rattle.hla_base.specs.Tables.{upd, upd2, numbers_below}
use Rattle.hla_catalogue.specs.Lookup.{contains_number}
use Rattle.hla_catalogue.specs.declared.declared.Order.{Order}
use Rattle.hla_orders.specs.Orders.{orders_given}
use Rattle.hla_machine.specs.Registered.{RegistryValue}

-- was the name ever given to an object
abbrev pub is_name_used_in : RegistryValue → List ℕ → Bool
is_name_used_in r name = list_any (λ h. not (eqb h 0) && bytes_eq (r.object h).name name) (numbers_below r.next_object)

-- the object exists, and the federate knows it
abbrev pub is_known_in : RegistryValue → ℕ → ℕ → Bool
is_known_in r f h = (r.object h).exists && r.known h f

abbrev pub is_owned_in : RegistryValue → ℕ → ℕ → ℕ → Bool
is_owned_in r f h attribute = eqb (r.object h).owner f && contains_number attribute (r.object h).attributes

-- the object exists, and the federate owns it
abbrev pub is_object_of : RegistryValue → ℕ → ℕ → Bool
is_object_of r f h = (r.object h).exists && eqb (r.object h).owner f

-- a federate's objects that exist, by rising number
abbrev pub objects_owned : RegistryValue → ℕ → List ℕ
objects_owned r f = filter (is_object_of r f) (numbers_below r.next_object)

-- the object of that name that the federate knows
abbrev pub object_found : RegistryValue → ℕ → List ℕ → Option ℕ
object_found r f name = find (λ h. is_known_in r f h && bytes_eq (r.object h).name name) (numbers_below r.next_object)

-- ---- the registry after a service
abbrev pub with_registered : RegistryValue → ℕ → List ℕ → ℕ → List ℕ → RegistryValue
with_registered r class name owner attributes = record r {
  next_object = r.next_object + 1;
  object = upd r.object r.next_object (record { class = class; name = name; owner = owner; attributes = attributes; exists = true });
  known = upd2 r.known r.next_object owner true;
}

-- updates of these attributes of the object go in this order
abbrev pub with_orders : RegistryValue → ℕ → List ℕ → Order → RegistryValue
with_orders r h attributes order = record r { orders = upd r.orders h (orders_given (r.orders h) attributes order) }

-- the objects of a federate are deleted
abbrev pub without_owned : RegistryValue → ℕ → RegistryValue
without_owned r f = record r { object = λ h. record (r.object h) { exists = (r.object h).exists && not (eqb (r.object h).owner f) } }

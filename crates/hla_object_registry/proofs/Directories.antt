-- A registry's words are those of a directory that has its tables
use Rattle.std.proofs.Common.{◌≡◌, ℕ, List, refl}
use Rattle.hla_machine.specs.Directory as directory
use Rattle.hla_machine.specs.Directory.{Directory}
use Rattle.hla_machine.specs.Refusals as refusals
use Rattle.hla_machine.specs.Registered.{RegistryValue}
use Rattle.hla_object_registry.specs.Queries.{is_name_used_in, is_known_in, is_owned_in, objects_owned, without_owned}

-- the tables of a directory that a registry keeps
abbrev pub registry_in : Directory → RegistryValue
registry_in d = record { next_object = d.next_object; object = d.object; known = d.known; orders = d.attribute_orders }

module _ (d : Directory) where
  pub name_used_in : (name : List ℕ) → is_name_used_in (registry_in d) name ≡ refusals.is_name_used d name
  name_used_in name = refl

  pub known_in : (f h : ℕ) → is_known_in (registry_in d) f h ≡ refusals.is_known d f h
  known_in f h = refl

  pub owned_in : (f h attribute : ℕ) → is_owned_in (registry_in d) f h attribute ≡ refusals.is_owned d f h attribute
  owned_in f h attribute = refl

  pub objects_in : (f : ℕ) → objects_owned (registry_in d) f ≡ directory.objects_of d f
  objects_in f = refl

  pub without_objects_in : (f : ℕ) → without_owned (registry_in d) f ≡ registry_in (directory.without_objects_of d f)
  without_objects_in f = refl

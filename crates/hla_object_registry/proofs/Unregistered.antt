-- What holds of every registry: numbers begin with 1, and nothing is said of numbers that were not given out
use Rattle.std.proofs.Common.{◌≡◌, ℕ, ◌<◌, ◌≤◌, List, false, refl, ap, ◌∙◌, arith}
use Rattle.hla_machine.specs.Directory.{no_object}
use Rattle.hla_machine.specs.Registered.{Registered, unregistered_object, is_in, registry_of}
use Rattle.hla_object_registry.proofs.Items.{item-none, is_in-nothing}

pub next_object_is_positive : (rs : List Registered) → 0 < (registry_of rs).next_object
next_object_is_positive rs = omega arith

pub no_object_at_zero : (rs : List Registered) → (registry_of rs).object 0 ≡ no_object
no_object_at_zero rs = refl

pub nothing_known_at_zero : (rs : List Registered) (f : ℕ) → (registry_of rs).known 0 f ≡ false
nothing_known_at_zero rs f = is_in-nothing f

pub no_object_above : (rs : List Registered) (h : ℕ) → (registry_of rs).next_object ≤ h → (registry_of rs).object h ≡ no_object
no_object_above rs h above = ap (λ (r : Registered). r.object) (item-none unregistered_object rs h (omega arith))

pub nothing_known_above : (rs : List Registered) (h f : ℕ) → (registry_of rs).next_object ≤ h → (registry_of rs).known h f ≡ false
nothing_known_above rs h f above = ap (λ (r : Registered). is_in r.known f) (item-none unregistered_object rs h (omega arith)) ∙ is_in-nothing f

-- numbers of federates begin with 1
pub nothing_known_to_zero : (rs : List Registered) (h : ℕ) → (registry_of rs).known h 0 ≡ false
nothing_known_to_zero rs h = refl

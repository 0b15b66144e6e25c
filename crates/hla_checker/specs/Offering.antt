-- The discoveries of one owner's objects, or of all
use Rattle.std.specs.Prelude.{ℕ, cond, eqb, is_some, ◌&&◌, Bool, true, Option, Some, None, List}
use Rattle.std.specs.List.{filter_map}
use Rattle.hla_base.specs.Tables.{numbers_below, when}
use Rattle.hla_base.specs.declared.content.Discovery.{Discovery}
use Rattle.hla_machine.specs.Directory.{Directory, discovery_of}

-- are discoveries of this owner's objects asked for
abbrev pub is_wanted : Option ℕ → ℕ → Bool
is_wanted None owner = true
is_wanted (Some f) owner = eqb f owner

-- the discovery of h that f is to make now, where it is asked for
abbrev pub wanted_of : Directory → Option ℕ → ℕ → ℕ → Option Discovery
wanted_of d of f h = when (is_wanted of (d.object h).owner) (discovery_of d f h)

-- those of g's objects, by rising number
abbrev pub wanted_discoveries : Directory → Option ℕ → ℕ → ℕ → List Discovery
wanted_discoveries d of g f = filter_map (λ h. when (eqb (d.object h).owner g) (wanted_of d of f h)) (numbers_below d.next_object)

-- who knows what once each joined federate knows h that is to discover it
abbrev pub known_to_joined : Directory → (ℕ → Bool) → ℕ → ℕ → ℕ → Bool
known_to_joined d joined h = λ j k. cond (eqb h j && joined k && is_some (discovery_of d k h)) true (d.known j k)

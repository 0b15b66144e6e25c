use Rattle.std.proofs.Common.{◌≡◌, ℕ, Option, Some, None, is_some, List, sym, ◌∙◌, MatchOption}
use Rattle.hla_machine.specs.Registered.{Registered, registry_of}
use Rattle.hla_object_registry.specs.Queries.{is_name_used_in}
use Rattle.hla_object_registry.specs.Entries.{IsUnused, IsNumberOf}
use Rattle.hla_object_registry.proofs.NameLemmas.{used, not_used}
use Rattle.hla_object_registry.proofs.registry.Registry.is_name_used.Goals as goal

is_found : (rs : List Registered) (name : List ℕ) (found : Option ℕ) → MatchOption found (IsUnused rs name) (IsNumberOf rs name) → is_some found ≡ is_name_used_in (registry_of rs) name
is_found rs name None h = sym (not_used rs name h)
is_found rs name (Some n) h = sym (used rs name n h)

pub returns : goal.returns
returns c = c.is_some.ensures ∙ is_found c.args.self.now c.args.name.now c.number_of.result c.number_of.ensures

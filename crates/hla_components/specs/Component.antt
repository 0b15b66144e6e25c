-- What one component knows of its peers and promises, and where a newcomer among the regulators enters
use Rattle.std.specs.Prelude.{ℕ, cond, eqb}
use Rattle.hla_base.specs.Tables.{least, greatest}
use Rattle.hla_base.specs.Rows.{bar_of}
use Rattle.hla_component_rules.specs.Promising.{promise_of, entry_for}
use Rattle.hla_components.specs.Components.{Components}

-- the least bound of its peers
abbrev pub local_bound : Components → ℕ → ℕ
local_bound s f = least s.directory.next_federate (s.bound f)

-- what it may promise now: it will send nothing below it
abbrev pub promise : Components → ℕ → ℕ
promise s f = promise_of (s.row f) (s.tso f) (local_bound s f)

-- the entry of a newcomer among the regulators, by what each announced last
unfoldable pub regulation_entry : Components → ℕ → ℕ → ℕ
regulation_entry s f earliest = greatest s.directory.next_federate earliest (λ g. cond (eqb f g) (bar_of (s.row g)) (entry_for (s.row g) (s.last_announced g)))

-- What a monitor reads beside a run
use Rattle.std.specs.Prelude.{◌≡◌, List, Option, None, Some}
use mathlib.Core.List.{IsPrefix}
use Rattle.hla_machine.specs.declared.step.Record.{Record}
use Rattle.hla_monitor.specs.Counts.{status_of}
use Rattle.hla_monitor.specs.declared.status.Status.{Status}

-- where a monitor is there, it reads the counts of a history that begins with what it knew
abbrev pub IsReadBy : Option (List Record) → Option Status → Type 0
IsReadBy None seen = seen ≡ None
IsReadBy (Some known) seen = (history : List Record) × IsPrefix known history × (seen ≡ Some (status_of history))

-- What a component is to tell its federate of synchronization points: it waits with the controls
use Rattle.std.specs.Prelude.{ℕ, ◌-◌, List, ◌++◌, length, map, take}
use Rattle.hla_base.specs.declared.notice.Notice.{Notice}
use Rattle.hla_component_rules.specs.declared.control.Control.TheVariants.{ToTell}
use Rattle.hla_component_rules.specs.LocalValue.{LocalValue}

-- these are to be told, behind what is there
abbrev pub local_told : List Notice → LocalValue → LocalValue
local_told notices l = record l { controls = l.controls ++ map ToTell notices }

-- the last of all that waits with the controls are taken back
abbrev pub local_untold : ℕ → LocalValue → LocalValue
local_untold count l = record l { controls = take (length l.controls - count) l.controls }

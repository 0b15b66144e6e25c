-- What is taken of a reader, and why not all
use Rattle.std.specs.Prelude.{◌≡◌, ◌≤◌, ℕ, true, List, length, take, IfSome}
use Rattle.hla_transcript.specs.Watching.{Stream}
use Rattle.hla_files.specs.declared.input.LoadFault.{LoadFault}
use Rattle.hla_files.specs.declared.input.LoadFault.TheVariants as stop

-- these bytes were taken of a file: its first ones up to a limit, and no read failed
pub record IsTaken (limit : ℕ) (old new : Stream) (bytes : List ℕ) : Type 0 where
  pub within : length bytes ≤ limit
  pub known : IfSome old.bytes (λ input. bytes ≡ take limit input)
  pub sound : new.has_failed ≡ old.has_failed

-- why a file was not read
abbrev pub LoadStops : Stream → Stream → LoadFault → Type 0
LoadStops old new stop.Read = new.has_failed ≡ true
LoadStops old new stop.Memory = new.has_failed ≡ old.has_failed

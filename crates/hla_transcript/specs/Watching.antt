-- Readers and writers that keep in mind whether they failed
use Rattle.std.specs.Prelude.{ℕ, ◌==◌, ◌&&◌, Bool, true, not, List, length, Option, Result, Ok, Err}
use Rattle.hla_transcript.specs.declared.watched.Watched.{Watched}

-- a write fails by an error, and where it takes none of some bytes
abbrev pub is_failed_write : {E : Type 0} → Result ℕ E → List ℕ → Bool
is_failed_write (Ok n) bytes = n == 0 && not (length bytes == 0)
is_failed_write (Err e) bytes = true

-- the bytes that a reader has left or a writer holds, where they are known, and whether it has failed
pub record Stream : Type 0 where
  pub bytes : Option (List ℕ)
  pub has_failed : Bool

abbrev pub stream_of : {T : Type 0} → (T → Option (List ℕ)) → Watched T → Stream
stream_of bytes w = record { bytes = bytes w.inner; has_failed = w.has_failed }

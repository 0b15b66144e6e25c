-- Bytes in front that pass a test, several at a time
use Rattle.std.specs.Prelude.{◌≡◌, ℕ, ◌+◌, if◌then◌else◌, ◌<◌, ◌≤◌, Bool, true, false, ◌==◌, List, slice_index}
use Rattle.std.specs.Int.{w64, trailing_zeros}

-- the bytes from at up to end pass the test
abbrev pub AllPass : (ℕ → Bool) → List ℕ → ℕ → ℕ → Type 0
AllPass test bytes at end = (k : ℕ) → at ≤ k → k < end → test (slice_index bytes k) ≡ true

-- just the first run bytes of the n from at pass the test: the next one of the n fails it
pub record IsSpan (test : ℕ → Bool) (bytes : List ℕ) (at n run : ℕ) : Type 0 where
  pub few : run ≤ n
  pub pass : AllPass test bytes at (at + run)
  pub stops : run < n → test (slice_index bytes (at + run)) ≡ false

-- the place of the lowest bit that is set, or n
abbrev pub first_set : ℕ → ℕ → ℕ
first_set mask n = if mask == 0 then n else trailing_zeros w64 mask

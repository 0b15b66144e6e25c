-- When all callers have come back, and whether their transcripts are the history's
use Rattle.std.specs.Prelude.{◌≡◌, ℕ, ◌+◌, ◌≤◌, ◌<◌, ◌⊎◌, ◌==◌, List, [], ◌∷◌, ◌++◌, Option, Some, true, slice_get, length, All}
use mathlib.Core.List.{IsPrefix}
use Rattle.std.specs.List.{list_any}
use Rattle.hla_machine.specs.declared.step.Record.{Record}
use Rattle.hla_history.specs.Closing.{records_by}
use Rattle.hla_callers.specs.Callers.{Caller, Leaver}

-- each caller that was handed out is in the list
abbrev pub AllHere : ℕ → List Leaver → Type 0
AllHere handed lefts = (n : ℕ) → 1 ≤ n → n ≤ handed → list_any (λ (l : Leaver). l.caller.number == n) lefts ≡ true

-- the transcript is the caller's records, in order
abbrev pub Agrees : List Record → Caller → Type 0
Agrees history c = c.transcript ≡ records_by c.number history

-- the callers before this place agree
abbrev pub AgreeBefore : List Record → List Leaver → ℕ → Type 0
AgreeBefore history lefts k = (j : ℕ) (l : Leaver) → j < k → slice_get lefts j ≡ Some l → Agrees history l.caller

-- the caller at this place is the first that differs, or, at the list's length, the infrastructure itself differs
abbrev pub DiffersFirst : List Record → List Leaver → Caller → ℕ → Type 0
DiffersFirst history lefts own k =
    AgreeBefore history lefts k
    × (((l : Leaver) × (slice_get lefts k ≡ Some l) × (Agrees history l.caller → ⊥)) ⊎ ((k ≡ length lefts) × (Agrees history own → ⊥)))

-- all agree
abbrev pub AllAgree : List Record → List Leaver → Caller → Type 0
AllAgree history lefts own = AgreeBefore history lefts (length lefts) × Agrees history own

-- the caller's whole transcript stands at its number
abbrev pub Stands : List (Option (List Record)) → Caller → Type 0
Stands table c = slice_get table c.number ≡ Some (Some c.transcript)

-- the transcripts of the callers before this place stand at their numbers
abbrev pub StandBefore : List (Option (List Record)) → List Leaver → ℕ → Type 0
StandBefore table lefts k = (j : ℕ) (l : Leaver) → j < k → slice_get lefts j ≡ Some l → Stands table l.caller

-- those of all do
abbrev pub AllStand : List (Option (List Record)) → List Leaver → Caller → Type 0
AllStand table lefts own = StandBefore table lefts (length lefts) × Stands table own

-- how many records the transcripts of all have
abbrev pub transcripts_length : List Leaver → ℕ
transcripts_length [] = 0
transcripts_length (l ∷ ls) = length l.caller.transcript + transcripts_length ls

-- each record is of a caller that was handed out, or of the infrastructure itself
abbrev pub AreOfCallers : ℕ → List Record → Type 0
AreOfCallers handed records = All (λ (r : Record). r.actor ≤ handed) records

-- where a caller has done anything, the history up to its last act is known, and begins this one
abbrev pub IsKnownUntil : List Record → Caller → Type 0
IsKnownUntil history c =
    (before : List Record) (r : Record) → c.transcript ≡ before ++ r ∷ [] → (h : List Record) × (c.until ≡ Some h) × IsPrefix h history

-- of the callers before this place
abbrev pub KnownBefore : List Record → List Leaver → ℕ → Type 0
KnownBefore history lefts k = (j : ℕ) (l : Leaver) → j < k → slice_get lefts j ≡ Some l → IsKnownUntil history l.caller

-- of all, and of the infrastructure itself
abbrev pub AllKnown : List Record → List Leaver → Caller → Type 0
AllKnown history lefts own = KnownBefore history lefts (length lefts) × IsKnownUntil history own

-- of the caller at this place it is not so, or, at the list's length, of the infrastructure itself
abbrev pub IsUnknownAt : List Record → List Leaver → Caller → ℕ → Type 0
IsUnknownAt history lefts own k =
    ((l : Leaver) × (slice_get lefts k ≡ Some l) × (IsKnownUntil history l.caller → ⊥))
    ⊎ ((k ≡ length lefts) × (IsKnownUntil history own → ⊥))

-- The rule of the history, and what its steps tell
use Rattle.std.specs.Prelude.{ℕ, ◌≡◌, ◌==◌, true, List, [], ◌∷◌, ◌++◌, length, MatchBool}
use Rattle.logbook.specs.Pages.{Cell, Step, View, Book, Named}
use Rattle.hla_machine.specs.declared.step.Record.{Record}

-- the first word is the length of the history; of the two words of a book the second stays at 0
abbrev pub IsWritten : List Cell → List Record → Type 0
IsWritten cells log = cells ≡ (length log, true) ∷ (0, true) ∷ []

abbrev pub length_of : Book → Named
length_of b = record { tracked = true; key = 0; book = b }

-- where the word was the length that was seen, the record was added to all that was seen
abbrev pub Grows : Step Record → View Record ℕ → ℕ → View Record ℕ → Type 0
Grows s v found w = MatchBool (found == s.old) (w.0 ≡ v.0 ++ s.ask ∷ []) (Unit {0})

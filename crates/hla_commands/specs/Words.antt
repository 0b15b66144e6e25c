-- The words of a line
use Rattle.std.specs.Prelude.{ℕ, Bool, true, false, not, ◌==◌, ◌||◌, List, [], ◌∷◌, if◌then◌else◌}
use Rattle.std.specs.List.{take_while}

-- a space or a tab
unfoldable pub is_gap : ℕ → Bool
is_gap b = b == 32 || b == 9

-- the words that begin in these bytes, which may continue a word
unfoldable pub words_from : Bool → List ℕ → List (List ℕ)
words_from inside [] = []
words_from inside (b ∷ bytes) =
    if is_gap b then words_from false bytes
    else if inside then words_from true bytes
    else take_while (λ c. not (is_gap c)) (b ∷ bytes) ∷ words_from true bytes

-- the words of a line, parted by spaces and tabs
abbrev pub words_of : List ℕ → List (List ℕ)
words_of line = words_from false line

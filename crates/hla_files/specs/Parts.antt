-- Two files in one input
use Rattle.std.specs.Prelude.{ℕ, Bool, ◌||◌, List, [], ◌∷◌, ◌++◌, codes, if◌then◌else◌}
use Rattle.std.specs.Str.{bytes_eq}
use Rattle.std.specs.List.{concat}
use Rattle.bstr.specs.Text.{lines_of}

-- a line that is exactly `%%`, with its line feed; the last may lack it
unfoldable pub is_separator : List ℕ → Bool
is_separator line = bytes_eq line (codes "%%\n") || bytes_eq line (codes "%%")

abbrev pub lines_before : List (List ℕ) → List ℕ
lines_before [] = []
lines_before (l ∷ ls) = if is_separator l then [] else l ++ lines_before ls

abbrev pub lines_behind : List (List ℕ) → List ℕ
lines_behind [] = []
lines_behind (l ∷ ls) = if is_separator l then concat ls else lines_behind ls

-- the lines before the first separator, or all
abbrev pub first_part : List ℕ → List ℕ
first_part input = lines_before (lines_of input)

-- the lines behind the first separator, or none
abbrev pub second_part : List ℕ → List ℕ
second_part input = lines_behind (lines_of input)

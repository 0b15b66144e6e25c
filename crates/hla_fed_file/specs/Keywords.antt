-- The words with a meaning, whatever their case
use Rattle.std.specs.Prelude.{ℕ, Bool, ◌||◌, List, Option, None, Some, if◌then◌else◌, codes}
use Rattle.std.specs.Str.{bytes_eq, str_to_ascii_lowercase}
use Rattle.hla_catalogue.specs.declared.declared.Order.TheVariants.{Receive, Timestamp}
use Rattle.hla_catalogue.specs.declared.declared.Transport.TheVariants.{Reliable, BestEffort}
use Rattle.hla_fed_file.specs.declared.place.Keyword.{Keyword}
use Rattle.hla_fed_file.specs.declared.place.Keyword.TheVariants as word

-- the word is the keyword, but for the case of its letters
abbrev pub is_spelling_of : List ℕ → List ℕ → Bool
is_spelling_of w keyword = bytes_eq (str_to_ascii_lowercase w) (str_to_ascii_lowercase keyword)

unfoldable pub keyword_of : List ℕ → Option Keyword
keyword_of w =
    if is_spelling_of w (codes "attribute") then Some word.Attribute
    else if is_spelling_of w (codes "parameter") then Some word.Parameter
    else if is_spelling_of w (codes "class") then Some word.Class
    else if is_spelling_of w (codes "reliable") then Some (word.Carried Reliable)
    else if is_spelling_of w (codes "best_effort") then Some (word.Carried BestEffort)
    else if is_spelling_of w (codes "receive") then Some (word.Ordered Receive)
    else if is_spelling_of w (codes "timestamp") then Some (word.Ordered Timestamp)
    else if is_spelling_of w (codes "sec_level") then Some word.SecLevel
    else if is_spelling_of w (codes "objects") then Some word.Objects
    else if is_spelling_of w (codes "interactions") then Some word.Interactions
    else if is_spelling_of w (codes "federate") || is_spelling_of w (codes "spaces") then Some word.Ignored
    else if is_spelling_of w (codes "federation") || is_spelling_of w (codes "fedversion") then Some word.Label
    else if is_spelling_of w (codes "fed") then Some word.Fed
    else None

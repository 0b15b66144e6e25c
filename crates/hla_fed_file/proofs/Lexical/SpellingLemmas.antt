-- A word that is the keyword spells it.
use Rattle.std.proofs.Common.{◌≡◌, ℕ, true, List, ap}
use Rattle.std.specs.Str.{bytes_eq, str_to_ascii_lowercase}
use Rattle.std.proofs.lemmas.Slice.Eq.{bytes_eq-Decides}
use Rattle.hla_fed_file.specs.Keywords.{is_spelling_of}

pub same_spelling : (word keyword : List ℕ) → bytes_eq word keyword ≡ true → is_spelling_of word keyword ≡ true
same_spelling word keyword e =
    (bytes_eq-Decides (str_to_ascii_lowercase word) (str_to_ascii_lowercase keyword)).1 (ap str_to_ascii_lowercase ((bytes_eq-Decides word keyword).0 e))

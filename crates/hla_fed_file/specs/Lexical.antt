-- The tokens of a FED text, each with its line
use Rattle.std.specs.Prelude.{ℕ, ◌+◌, ◌≤◌, Bool, false, not, ◌==◌, ◌||◌, ◌&&◌, nat_lt, List, [], ◌∷◌, if◌then◌else◌}
use Rattle.std.specs.List.{take_while}
use Rattle.hla_base.specs.Tables.{one_if}

-- what a text has at a place: End at its end, Unclosed where it ends inside a quoted name, Bad where a byte stands that may not
pub data Token : Type 0 where
  Open : Token
  Close : Token
  Word : (name : List ℕ) → Token
  Quoted : (name : List ℕ) → Token
  Bad : Token
  Unclosed : Token
  End : Token

pub record Lexed : Type 0 where
  pub line : ℕ
  pub token : Token

-- white space other than the line feed
unfoldable pub is_blank : ℕ → Bool
is_blank b = b == 32 || b == 9 || b == 13 || b == 11 || b == 12

-- a byte below 32 that is no white space, or 127
unfoldable pub is_bad : ℕ → Bool
is_bad b = (nat_lt b 32 && not (b == 10) && not (is_blank b)) || b == 127

-- ( ) ; and "
unfoldable pub is_mark : ℕ → Bool
is_mark b = b == 40 || b == 41 || b == 59 || b == 34

-- a byte of a bare word, unless it is a bad one
unfoldable pub is_word : ℕ → Bool
is_word b = not (b == 10 || is_blank b || is_mark b || is_bad b)

-- a byte of a comment
unfoldable pub is_comment : ℕ → Bool
is_comment b = not (b == 10)

-- a byte of a quoted name
unfoldable pub is_quoted : ℕ → Bool
is_quoted b = not (b == 34 || b == 10 || is_bad b)

-- what a byte may continue: nothing, a word, a comment or a quoted name
pub data Mode : Type 0 where
  Between : Mode
  InWord : Mode
  InComment : Mode
  InQuoted : Mode

-- the byte only continues what is begun; the quote that ends a quoted name does too
abbrev pub is_inside : Mode → ℕ → Bool
is_inside Between b = false
is_inside InWord b = is_word b
is_inside InComment b = is_comment b
is_inside InQuoted b = is_quoted b

-- a quoted name, of the bytes behind the first quote and the tokens behind the last
abbrev pub quoted_name : ℕ → List ℕ → List ℕ → List Lexed → List Lexed
quoted_name line name [] later = record { line = line; token = Unclosed } ∷ []
quoted_name line name (b ∷ bytes) later = if b == 34 then record { line = line; token = Quoted name } ∷ later else record { line = line; token = Bad } ∷ []

-- what stands behind the bytes in front that pass a test
abbrev pub drop_while : (ℕ → Bool) → List ℕ → List ℕ
drop_while test [] = []
drop_while test (b ∷ bytes) = if test b then drop_while test bytes else b ∷ bytes

-- a bad byte stands in front
abbrev pub has_bad_front : List ℕ → Bool
has_bad_front [] = false
has_bad_front (b ∷ bytes) = is_bad b

-- a bare word, of its bytes, the bytes and the tokens behind them; a bad byte in a word is at fault before the word is tested
abbrev pub word : ℕ → List ℕ → List ℕ → List Lexed → List Lexed
word line name bytes later = if has_bad_front bytes then record { line = line; token = Bad } ∷ [] else record { line = line; token = Word name } ∷ later

-- the tokens of a text from a line on
unfoldable pub tokens_from : Mode → ℕ → List ℕ → List Lexed
tokens_from mode line [] = record { line = line; token = End } ∷ []
tokens_from InQuoted line (b ∷ bytes) = if is_quoted b then tokens_from InQuoted line bytes else tokens_from Between line bytes
tokens_from mode line (b ∷ bytes) =
    if is_inside mode b then tokens_from mode line bytes
    else if b == 10 then tokens_from Between (line + 1) bytes
    else if is_blank b then tokens_from Between line bytes
    else if b == 59 then tokens_from InComment line bytes
    else if b == 40 then record { line = line; token = Open } ∷ tokens_from Between line bytes
    else if b == 41 then record { line = line; token = Close } ∷ tokens_from Between line bytes
    else if b == 34 then quoted_name line (take_while is_quoted bytes) (drop_while is_quoted bytes) (tokens_from InQuoted line bytes)
    else if is_bad b then record { line = line; token = Bad } ∷ []
    else word line (take_while is_word (b ∷ bytes)) (drop_while is_word (b ∷ bytes)) (tokens_from InWord line bytes)

-- all tokens of a text
abbrev pub tokens : List ℕ → List Lexed
tokens text = tokens_from Between 1 text

-- the line feeds of a text
abbrev pub line_feeds : List ℕ → ℕ
line_feeds [] = 0
line_feeds (b ∷ bytes) = one_if (b == 10) + line_feeds bytes

-- the text has this line; the first is 1, and a line begins behind each line feed
pub record IsLineOf (text : List ℕ) (line : ℕ) : Type 0 where
  pub from : 1 ≤ line
  pub to : line ≤ 1 + line_feeds text

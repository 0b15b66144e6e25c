-- Tokens stand on the lines of their text.
use Rattle.std.proofs.Common.{◌≡◌, ℕ, ◌+◌, ◌≤◌, Bool, true, false, List, [], ◌∷◌, Result, Ok, Err, IfErr, refl, ap, subst, arith, ◌==◌, if◌then◌else◌}
use Rattle.std.specs.List.{take_while}
use Rattle.hla_base.specs.Tables.{one_if}
use Rattle.hla_fed_file.specs.Lexical as text
use Rattle.hla_fed_file.specs.Lexical.{Lexed, Mode, Between, InWord, InComment, InQuoted, tokens_from, tokens, quoted_name, word, drop_while, has_bad_front, is_word, is_blank, is_bad, is_comment, is_quoted, is_inside, line_feeds, IsLineOf}
use Rattle.hla_fed_file.specs.Tokens.{stream}
use Rattle.hla_fed_file.specs.Reading.{after_token, ending_of, is_done}
use Rattle.hla_catalogue.specs.CatalogueValue.{CatalogueValue}
use Rattle.hla_fed_file.specs.declared.fault.FedFault.{FedFault}
use Rattle.hla_fed_file.specs.declared.fault.FedFaultKind.TheVariants as kind
use Rattle.hla_fed_file.specs.declared.reader.Reader.{Reader}

-- each token stands on a line of the text
abbrev pub AreOnLines : List ℕ → List Lexed → Type 0
AreOnLines whole [] = Unit {0}
AreOnLines whole (t ∷ ts) = IsLineOf whole t.line × AreOnLines whole ts

either : {X : Type 0} (P : X → Type 0) (b : Bool) (x y : X) → (b ≡ true → P x) → P y → P (if b then x else y)
either P true x y p q = p refl
either P false x y p q = q

quoted_on : (whole : List ℕ) (line : ℕ) (name rest : List ℕ) (later : List Lexed) → IsLineOf whole line → AreOnLines whole later → AreOnLines whole (quoted_name line name rest later)
quoted_on whole line name [] later here all = (here, tt)
quoted_on whole line name (b ∷ bytes) later here all = either (AreOnLines whole) (b == 34) _ _ (λ _. (here, all)) (here, tt)

word_on : (whole : List ℕ) (line : ℕ) (name rest : List ℕ) (later : List Lexed) → IsLineOf whole line → AreOnLines whole later → AreOnLines whole (word line name rest later)
word_on whole line name rest later here all = either (AreOnLines whole) (has_bad_front rest) _ _ (λ _. (here, tt)) (here, all)

-- behind a byte that continues nothing
front_on : (whole : List ℕ) (line b : ℕ) (bytes : List ℕ) → IsLineOf whole line → ((m : Mode) → AreOnLines whole (tokens_from m line bytes)) → (b == 10 ≡ true → AreOnLines whole (tokens_from Between (line + 1) bytes))
    → AreOnLines whole (tokens_from Between line (b ∷ bytes))
unfolding tokens_from
front_on whole line b bytes here all next =
    either (AreOnLines whole) (b == 10) _ _ next
    (either (AreOnLines whole) (is_blank b) _ _ (λ _. all Between)
    (either (AreOnLines whole) (b == 59) _ _ (λ _. all InComment)
    (either (AreOnLines whole) (b == 40) _ _ (λ _. (here, all Between))
    (either (AreOnLines whole) (b == 41) _ _ (λ _. (here, all Between))
    (either (AreOnLines whole) (b == 34) _ _ (λ _. quoted_on whole line (take_while is_quoted bytes) (drop_while is_quoted bytes) (tokens_from InQuoted line bytes) here (all InQuoted))
    (either (AreOnLines whole) (is_bad b) _ _ (λ _. (here, tt))
    (word_on whole line (take_while is_word (b ∷ bytes)) (drop_while is_word (b ∷ bytes)) (tokens_from InWord line bytes) here (all InWord))))))))

-- what is left of a text on a line has no more line feeds than the text behind that line
pub tokens_on : (whole : List ℕ) (mode : Mode) (line : ℕ) (bytes : List ℕ) → 1 ≤ line → line + line_feeds bytes ≤ 1 + line_feeds whole → AreOnLines whole (tokens_from mode line bytes)
unfolding tokens_from
tokens_on whole Between line [] from to = (record { from = from; to = omega (arith, to) }, tt)
tokens_on whole InWord line [] from to = (record { from = from; to = omega (arith, to) }, tt)
tokens_on whole InComment line [] from to = (record { from = from; to = omega (arith, to) }, tt)
tokens_on whole InQuoted line [] from to = (record { from = from; to = omega (arith, to) }, tt)
tokens_on whole InQuoted line (b ∷ bytes) from to =
    let less : line + line_feeds bytes ≤ 1 + line_feeds whole = omega (arith, to) in
    either (AreOnLines whole) (is_quoted b) _ _ (λ _. tokens_on whole InQuoted line bytes from less) (tokens_on whole Between line bytes from less)
tokens_on whole Between line (b ∷ bytes) from to =
    let less : line + line_feeds bytes ≤ 1 + line_feeds whole = omega (arith, to) in
    let next : b == 10 ≡ true → (line + 1) + line_feeds bytes ≤ 1 + line_feeds whole = λ e. omega (arith, to, ap one_if e) in
    front_on whole line b bytes (record { from = from; to = omega (arith, less) }) (λ m. tokens_on whole m line bytes from less) (λ e. tokens_on whole Between (line + 1) bytes (omega (arith, from)) (next e))
tokens_on whole InWord line (b ∷ bytes) from to =
    let less : line + line_feeds bytes ≤ 1 + line_feeds whole = omega (arith, to) in
    let next : b == 10 ≡ true → (line + 1) + line_feeds bytes ≤ 1 + line_feeds whole = λ e. omega (arith, to, ap one_if e) in
    either (AreOnLines whole) (is_inside InWord b) _ _ (λ _. tokens_on whole InWord line bytes from less)
    (front_on whole line b bytes (record { from = from; to = omega (arith, less) }) (λ m. tokens_on whole m line bytes from less) (λ e. tokens_on whole Between (line + 1) bytes (omega (arith, from)) (next e)))
tokens_on whole InComment line (b ∷ bytes) from to =
    let less : line + line_feeds bytes ≤ 1 + line_feeds whole = omega (arith, to) in
    let next : b == 10 ≡ true → (line + 1) + line_feeds bytes ≤ 1 + line_feeds whole = λ e. omega (arith, to, ap one_if e) in
    either (AreOnLines whole) (is_inside InComment b) _ _ (λ _. tokens_on whole InComment line bytes from less)
    (front_on whole line b bytes (record { from = from; to = omega (arith, less) }) (λ m. tokens_on whole m line bytes from less) (λ e. tokens_on whole Between (line + 1) bytes (omega (arith, from)) (next e)))

pub all_on : (whole : List ℕ) → AreOnLines whole (tokens whole)
all_on whole = tokens_on whole Between 1 whole (omega arith) (omega arith)

-- the first token, and those behind one that is taken
pub first_on : (whole : List ℕ) (line : ℕ) (token : text.Token) (rest : List ℕ) (ts : List Lexed) → ts ≡ stream line token rest → AreOnLines whole ts → IsLineOf whole line
first_on whole line token rest ts e all = front token (subst (AreOnLines whole) e all)
  where
    front : (token : text.Token) → AreOnLines whole (stream line token rest) → IsLineOf whole line
    front text.Open on = on.0
    front text.Close on = on.0
    front (text.Word w) on = on.0
    front (text.Quoted w) on = on.0
    front text.Bad on = on.0
    front text.Unclosed on = on.0
    front text.End on = on.0

pub keeps_on : (whole : List ℕ) (s s' : Reader) (line : ℕ) (token : text.Token) (rest : List ℕ) (ts : List Lexed) → ts ≡ stream line token rest → after_token s token ≡ Ok s' → AreOnLines whole ts
    → AreOnLines whole (tokens_from Between line rest)
keeps_on whole s s' line token rest ts e ok all = behind token ok (subst (AreOnLines whole) e all)
  where
    behind : (token : text.Token) → after_token s token ≡ Ok s' → AreOnLines whole (stream line token rest) → AreOnLines whole (tokens_from Between line rest)
    behind text.Open ok on = on.1
    behind text.Close ok on = on.1
    behind (text.Word w) ok on = on.1
    behind (text.Quoted w) ok on = on.1
    behind text.Bad ok on = absurd (cc)
    behind text.Unclosed ok on = absurd (cc)
    behind text.End ok on = absurd (cc)

-- where the text ends too early, its end is at fault
abbrev line_of : Result CatalogueValue FedFault → ℕ
line_of (Ok c) = 0
line_of (Err e) = e.line

pub ends_on : (line : ℕ) (s : Reader) (e : FedFault) → Err e ≡ ending_of line s → e.line ≡ line
ends_on line s e is = at_end (is_done s.place) is
  where
    at_end : (b : Bool) → Err e ≡ (if b then Ok s.catalogue else Err (record { line = line; kind = kind.UnexpectedEnd })) → e.line ≡ line
    at_end true is = absurd (cc)
    at_end false is = ap line_of is

pub at_line : (whole : List ℕ) (line : ℕ) (r : Result CatalogueValue FedFault) → IsLineOf whole line → IfErr r (λ e. e.line ≡ line) → IfErr r (λ e. IsLineOf whole e.line)
at_line whole line (Ok c) on same = tt
at_line whole line (Err e) on same = rw same on

pub ruleset lines = (all_on, first_on, keeps_on)

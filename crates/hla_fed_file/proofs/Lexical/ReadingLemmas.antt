-- One more token.
use Rattle.hla_base.specs.Limits.{max_fed_file}
use Rattle.std.proofs.Common.{◌≡◌, ℕ, true, false, List, Result, Ok, Err, length, nat_lt, ◌≤◌, ◌<◌, refl, sym, ap, ◌∙◌, le-ltb, lt-ltb}
use Rattle.hla_fed_file.specs.Lexical as text
use Rattle.hla_fed_file.specs.Lexical.{Lexed, tokens, tokens_from, Between}
use Rattle.hla_fed_file.specs.Tokens.{stream, is_end}
use Rattle.hla_fed_file.specs.Reading.{reading, after_token, ending_of, start, reading_of, ReadsAs, Fails, IsFirstFault}
use Rattle.hla_catalogue.specs.CatalogueValue.{CatalogueValue}
use Rattle.hla_fed_file.specs.declared.fault.FedFaultKind.{FedFaultKind}
use Rattle.hla_fed_file.specs.declared.fault.FedFaultKind.TheVariants as kind
use Rattle.hla_fed_file.specs.declared.fault.FedFault.{FedFault}
use Rattle.hla_fed_file.specs.declared.reader.Reader.{Reader}

abbrev All : Type 0
All = Result CatalogueValue FedFault

-- a token is taken
pub goes_on : (s s' : Reader) (line : ℕ) (token : text.Token) (rest : List ℕ) (ts : List Lexed) (all : All) → ts ≡ stream line token rest → is_end token ≡ false → after_token s token ≡ Ok s' → reading s ts ≡ all → reading s' (tokens_from Between line rest) ≡ all
unfolding reading
goes_on s s' line text.Open rest ts all e h ok so_far = let step : reading s (stream line text.Open rest) ≡ reading s' (tokens_from Between line rest) = rw ok refl in sym step ∙ ap (reading s) (sym e) ∙ so_far
goes_on s s' line text.Close rest ts all e h ok so_far = let step : reading s (stream line text.Close rest) ≡ reading s' (tokens_from Between line rest) = rw ok refl in sym step ∙ ap (reading s) (sym e) ∙ so_far
goes_on s s' line (text.Word w) rest ts all e h ok so_far = let step : reading s (stream line (text.Word w) rest) ≡ reading s' (tokens_from Between line rest) = rw ok refl in sym step ∙ ap (reading s) (sym e) ∙ so_far
goes_on s s' line (text.Quoted w) rest ts all e h ok so_far = let step : reading s (stream line (text.Quoted w) rest) ≡ reading s' (tokens_from Between line rest) = rw ok refl in sym step ∙ ap (reading s) (sym e) ∙ so_far
goes_on s s' line text.Bad rest ts all e h ok so_far = cc
goes_on s s' line text.Unclosed rest ts all e h ok so_far = cc
goes_on s s' line text.End rest ts all e h ok so_far = cc

-- a token is at fault
pub fails_at : (s : Reader) (k : FedFaultKind) (line : ℕ) (token : text.Token) (rest : List ℕ) (ts : List Lexed) (all : All) → ts ≡ stream line token rest → is_end token ≡ false → after_token s token ≡ Err k → reading s ts ≡ all → all ≡ Err (record { line = line; kind = k })
unfolding reading
fails_at s k line text.Open rest ts all e h err so_far = let step : reading s (stream line text.Open rest) ≡ Err (record { line = line; kind = k }) = rw err refl in sym so_far ∙ ap (reading s) e ∙ step
fails_at s k line text.Close rest ts all e h err so_far = let step : reading s (stream line text.Close rest) ≡ Err (record { line = line; kind = k }) = rw err refl in sym so_far ∙ ap (reading s) e ∙ step
fails_at s k line (text.Word w) rest ts all e h err so_far = let step : reading s (stream line (text.Word w) rest) ≡ Err (record { line = line; kind = k }) = rw err refl in sym so_far ∙ ap (reading s) e ∙ step
fails_at s k line (text.Quoted w) rest ts all e h err so_far = let step : reading s (stream line (text.Quoted w) rest) ≡ Err (record { line = line; kind = k }) = rw err refl in sym so_far ∙ ap (reading s) e ∙ step
fails_at s k line text.Bad rest ts all e h err so_far = let same : k ≡ kind.BadByte = cc in sym so_far ∙ ap (reading s) e ∙ ap (λ (k' : FedFaultKind). Err (record { line = line; kind = k' })) (sym same)
fails_at s k line text.Unclosed rest ts all e h err so_far = let same : k ≡ kind.UnexpectedEnd = cc in sym so_far ∙ ap (reading s) e ∙ ap (λ (k' : FedFaultKind). Err (record { line = line; kind = k' })) (sym same)
fails_at s k line text.End rest ts all e h err so_far = cc

-- the text ends
pub ends_at : (s : Reader) (line : ℕ) (token : text.Token) (rest : List ℕ) (ts : List Lexed) (all : All) → ts ≡ stream line token rest → is_end token ≡ true → reading s ts ≡ all → all ≡ ending_of line s
unfolding reading
ends_at s line text.Open rest ts all e h so_far = cc
ends_at s line text.Close rest ts all e h so_far = cc
ends_at s line (text.Word w) rest ts all e h so_far = cc
ends_at s line (text.Quoted w) rest ts all e h so_far = cc
ends_at s line text.Bad rest ts all e h so_far = cc
ends_at s line text.Unclosed rest ts all e h so_far = cc
ends_at s line text.End rest ts all e h so_far = sym so_far ∙ ap (reading s) e

-- a text that is too long
pub too_long : (bytes : List ℕ) → max_fed_file < length bytes → reading_of bytes ≡ Err (record { line = 1; kind = kind.TooLarge })
unfolding reading_of
too_long bytes h = let large : nat_lt max_fed_file (length bytes) ≡ true = lt-ltb _ _ h in rw large refl

own_fault : (line : ℕ) (k : FedFaultKind) → IsFirstFault line k (Err (record { line = line; kind = k }))
own_fault line kind.OutOfMemory = tt
own_fault line kind.UnexpectedEnd = refl
own_fault line kind.BadByte = refl
own_fault line kind.ExpectedOpen = refl
own_fault line kind.UnknownKeyword = refl
own_fault line kind.ExpectedName = refl
own_fault line kind.ExpectedClose = refl
own_fault line kind.TrailingText = refl
own_fault line kind.TooLarge = refl

pub gives_own : (r : All) → ReadsAs r r
gives_own (Ok c) = refl
gives_own (Err e) = own_fault e.line e.kind

-- a token is at fault, or memory ran out
pub fails_with : (k : FedFaultKind) (s : Reader) (line : ℕ) (token : text.Token) (rest : List ℕ) (ts : List Lexed) (all : All) → ts ≡ stream line token rest → is_end token ≡ false → Fails k (after_token s token)
    → reading s ts ≡ all → IsFirstFault line k all
fails_with kind.OutOfMemory s line token rest ts all t e err so_far = tt
fails_with kind.UnexpectedEnd s line token rest ts all t e err so_far = fails_at s kind.UnexpectedEnd line token rest ts all t e err so_far
fails_with kind.BadByte s line token rest ts all t e err so_far = fails_at s kind.BadByte line token rest ts all t e err so_far
fails_with kind.ExpectedOpen s line token rest ts all t e err so_far = fails_at s kind.ExpectedOpen line token rest ts all t e err so_far
fails_with kind.UnknownKeyword s line token rest ts all t e err so_far = fails_at s kind.UnknownKeyword line token rest ts all t e err so_far
fails_with kind.ExpectedName s line token rest ts all t e err so_far = fails_at s kind.ExpectedName line token rest ts all t e err so_far
fails_with kind.ExpectedClose s line token rest ts all t e err so_far = fails_at s kind.ExpectedClose line token rest ts all t e err so_far
fails_with kind.TrailingText s line token rest ts all t e err so_far = fails_at s kind.TrailingText line token rest ts all t e err so_far
fails_with kind.TooLarge s line token rest ts all t e err so_far = fails_at s kind.TooLarge line token rest ts all t e err so_far

-- a text that is not too long
pub read_whole : (bytes : List ℕ) → length bytes ≤ max_fed_file → reading_of bytes ≡ reading start (tokens bytes)
unfolding reading_of
read_whole bytes h = let small : nat_lt max_fed_file (length bytes) ≡ false = le-ltb _ _ h in rw small refl

-- its end, and its first fault
pub ends_whole : (bytes : List ℕ) (line : ℕ) (first s : Reader) (r : All) → first ≡ start → length bytes ≤ max_fed_file → reading first (tokens bytes) ≡ ending_of line s → ReadsAs r (ending_of line s) → ReadsAs r (reading_of bytes)
ends_whole bytes line first s r begins h e answer =
    let all : reading_of bytes ≡ ending_of line s = read_whole bytes h ∙ ap (λ from. reading from (tokens bytes)) (sym begins) ∙ e in
    rw all answer

pub fails_whole : (bytes : List ℕ) (first : Reader) (e : FedFault) → first ≡ start → length bytes ≤ max_fed_file → IsFirstFault e.line e.kind (reading first (tokens bytes)) → ReadsAs (Err e) (reading_of bytes)
fails_whole bytes first e begins h fault = rw (read_whole bytes h, ← begins) fault

pub ruleset steps = (goes_on, ends_at)

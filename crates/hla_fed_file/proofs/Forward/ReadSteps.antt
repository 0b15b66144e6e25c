-- What is in the grammar is read: one symbol after the other, and ignored lists.
use Rattle.hla_base.specs.Limits.{max_name}
use Rattle.std.proofs.Common.{◌≡◌, ℕ, ◌+◌, ◌-◌, ◌<◌, ◌≤◌, ◌==◌, true, false, List, [], ◌∷◌, length, Option, None, Some, Ok, nat_lt, nat_le, refl, ◌∙◌, arith, le-ltb}
use Rattle.std.proofs.lemmas.Bool.Decides.{nat_tests}
use Rattle.hla_fed_file.specs.Lexical as text
use Rattle.hla_fed_file.specs.Lexical.{Lexed, tokens}
use Rattle.hla_fed_file.specs.Tokens.{is_end}
use Rattle.hla_fed_file.specs.Keywords.{keyword_of}
use Rattle.hla_catalogue.specs.CatalogueValue.{CatalogueValue}
use Rattle.hla_fed_file.specs.Reading.{reading, after_token, after_open, after_close, after_word, after_quoted, after_name, after_name_at, place_behind_keyword, with_paren_opened, place_behind}
use Rattle.hla_fed_file.specs.Grammar.{Symbol, LeftParen, RightParen, Means, Named, AnyName, Fits, Spells, Ignored, NoMore, AName, AList, ignored_then, IsShort, ignored_fit}
use Rattle.hla_catalogue.specs.declared.declared.Attribute.{Attribute}
use Rattle.hla_catalogue.specs.declared.declared.InteractionClass.{InteractionClass}
use Rattle.hla_fed_file.specs.declared.place.Keyword.{Keyword}
use Rattle.hla_fed_file.specs.declared.place.Head.{Head}
use Rattle.hla_fed_file.specs.declared.place.NameOf.{NameOf}
use Rattle.hla_fed_file.specs.declared.place.Within.{Within}
use Rattle.hla_fed_file.specs.declared.place.Place.{Place}
use Rattle.hla_fed_file.specs.declared.place.Place.TheVariants as at
use Rattle.hla_fed_file.specs.declared.reader.Reader.{Reader}

-- a reader with an attribute half read, unless it is ignored; with an interaction class half read; and with neither
abbrev pub half : Place → ℕ → List ℕ → Option Attribute → CatalogueValue → Reader
half place depth lineage kept c = record { place = place; depth = depth; lineage = lineage; attribute = kept; class = None; catalogue = c }

abbrev pub pending : Place → ℕ → List ℕ → InteractionClass → CatalogueValue → Reader
pending place depth lineage k c = record { place = place; depth = depth; lineage = lineage; attribute = None; class = Some k; catalogue = c }

abbrev pub reader : Place → ℕ → List ℕ → CatalogueValue → Reader
reader place depth lineage c = half place depth lineage None c

-- a reader somewhere else
abbrev pub reader_at : Reader → Place → ℕ → Reader
reader_at s place depth = record s { place = place; depth = depth }

pub one : (s s' : Reader) (t : Lexed) (ts : List Lexed) → is_end t.token ≡ false → after_token s t.token ≡ Ok s' → reading s (t ∷ ts) ≡ reading s' ts
unfolding reading
one s s' t ts h ok = rw (h, ok) refl

-- two readers that step alike read alike
pub alike : (s s' : Reader) (t : Lexed) (ts : List Lexed) → is_end t.token ≡ false → after_token s t.token ≡ after_token s' t.token → reading s (t ∷ ts) ≡ reading s' (t ∷ ts)
unfolding reading
alike s s' t ts h e = rw (h, e) refl

-- what fits a symbol, and the step that it makes
pub fits_left : (token : text.Token) (s : Reader) → Fits token LeftParen → (is_end token ≡ false) × (after_token s token ≡ after_open s)
fits_left text.Open s h = (refl, refl)
fits_left text.Close s h = absurd h
fits_left (text.Word w) s h = absurd h
fits_left (text.Quoted w) s h = absurd h
fits_left text.Bad s h = absurd h
fits_left text.Unclosed s h = absurd h
fits_left text.End s h = absurd h

pub fits_right : (token : text.Token) (s : Reader) → Fits token RightParen → (is_end token ≡ false) × (after_token s token ≡ after_close s)
fits_right text.Open s h = absurd h
fits_right text.Close s h = (refl, refl)
fits_right (text.Word w) s h = absurd h
fits_right (text.Quoted w) s h = absurd h
fits_right text.Bad s h = absurd h
fits_right text.Unclosed s h = absurd h
fits_right text.End s h = absurd h

fits_keyword : (token : text.Token) (k : Keyword) (s s' : Reader) → Fits token (Means k) → ((w : List ℕ) → keyword_of w ≡ Some k → after_word s w ≡ Ok s') → (is_end token ≡ false) × (after_token s token ≡ Ok s')
fits_keyword text.Open k s s' h f = absurd h
fits_keyword text.Close k s s' h f = absurd h
fits_keyword (text.Word w) k s s' h f = (refl, f w h)
fits_keyword (text.Quoted w) k s s' h f = absurd h
fits_keyword text.Bad k s s' h f = absurd h
fits_keyword text.Unclosed k s s' h f = absurd h
fits_keyword text.End k s s' h f = absurd h

fits_name : (token : text.Token) (n : List ℕ) (s s' : Reader) → Fits token (Named n) → after_word s n ≡ Ok s' → after_quoted s n ≡ Ok s' → (is_end token ≡ false) × (after_token s token ≡ Ok s')
fits_name text.Open n s s' h f g = absurd h
fits_name text.Close n s s' h f g = absurd h
fits_name (text.Word w) n s s' h f g = (refl, rw h f)
fits_name (text.Quoted w) n s s' h f g = (refl, rw h g)
fits_name text.Bad n s s' h f g = absurd h
fits_name text.Unclosed n s s' h f g = absurd h
fits_name text.End n s s' h f g = absurd h

fits_any : (token : text.Token) (s s' : Reader) → Fits token AnyName → ((w : List ℕ) → after_word s w ≡ Ok s') → ((w : List ℕ) → after_quoted s w ≡ Ok s') → (is_end token ≡ false) × (after_token s token ≡ Ok s')
fits_any text.Open s s' h f g = absurd h
fits_any text.Close s s' h f g = absurd h
fits_any (text.Word w) s s' h f g = (refl, f w)
fits_any (text.Quoted w) s s' h f g = (refl, g w)
fits_any text.Bad s s' h f g = absurd h
fits_any text.Unclosed s s' h f g = absurd h
fits_any text.End s s' h f g = absurd h

-- What is read of some symbols: the reader after them, and the tokens that are left.
pub record ReadsSymbols (s s' : Reader) (ts : List Lexed) (ss : List Symbol) : Type 0 where
  pub rest : List Lexed
  pub spelled : Spells rest ss
  pub same : reading s ts ≡ reading s' rest

-- one symbol and its token
pub left_read : (s s' : Reader) (ts : List Lexed) (ss : List Symbol) → after_open s ≡ Ok s' → Spells ts (LeftParen ∷ ss) → ReadsSymbols s s' ts ss
left_read s s' [] ss h sp = absurd sp
left_read s s' (t ∷ ts) ss h sp = let f = fits_left t.token s sp.0 in record { rest = ts; spelled = sp.1; same = one _ _ t ts f.0 (f.1 ∙ h) }

pub right_read : (s s' : Reader) (ts : List Lexed) (ss : List Symbol) → after_close s ≡ Ok s' → Spells ts (RightParen ∷ ss) → ReadsSymbols s s' ts ss
right_read s s' [] ss h sp = absurd sp
right_read s s' (t ∷ ts) ss h sp = let f = fits_right t.token s sp.0 in record { rest = ts; spelled = sp.1; same = one _ _ t ts f.0 (f.1 ∙ h) }

pub keyword_read : (k : Keyword) (s s' : Reader) (ts : List Lexed) (ss : List Symbol) → ((w : List ℕ) → keyword_of w ≡ Some k → after_word s w ≡ Ok s') → Spells ts (Means k ∷ ss) → ReadsSymbols s s' ts ss
keyword_read k s s' [] ss h sp = absurd sp
keyword_read k s s' (t ∷ ts) ss h sp = let f = fits_keyword t.token k s s' sp.0 h in record { rest = ts; spelled = sp.1; same = one _ _ t ts f.0 f.1 }

pub any_read : (s s' : Reader) (ts : List Lexed) (ss : List Symbol) → ((w : List ℕ) → after_word s w ≡ Ok s') → ((w : List ℕ) → after_quoted s w ≡ Ok s') → Spells ts (AnyName ∷ ss) → ReadsSymbols s s' ts ss
any_read s s' [] ss f g sp = absurd sp
any_read s s' (t ∷ ts) ss f g sp = let e = fits_any t.token s s' sp.0 f g in record { rest = ts; spelled = sp.1; same = one _ _ t ts e.0 e.1 }

pub above_zero : (n : ℕ) → 0 < n → (n == 0) ≡ false
above_zero n h = grind (arith, nat_tests)

pub below_limit : (n m : ℕ) → n < m → nat_le m n ≡ false
below_limit n m h = grind (arith, nat_tests)

above : (b d : ℕ) → b ≤ d → (d + 1 == b) ≡ false
above b d h = grind (arith, nat_tests)

same_number : (b : ℕ) → (b == b) ≡ true
same_number b = grind (arith, nat_tests)

pub down : (d : ℕ) → d + 1 - 1 ≡ d
down d = omega arith

-- a name of 1 to 255 bytes
short_named : (what : NameOf) (s : Reader) (n : List ℕ) → IsShort n → after_name what s n ≡ after_name_at what s n
unfolding after_name
short_named what s n short =
    let a : (length n == 0) ≡ false = above_zero _ short.0 in
    let b : nat_lt max_name (length n) ≡ false = le-ltb _ _ short.1 in
    rw (a, b) refl

pub name_read : (what : NameOf) (n : List ℕ) (d : ℕ) (l : List ℕ) (c : CatalogueValue) (s' : Reader) (ts : List Lexed) (ss : List Symbol) → IsShort n → after_name_at what (reader (at.Name what) d l c) n ≡ Ok s'
    → Spells ts (Named n ∷ ss) → ReadsSymbols (reader (at.Name what) d l c) s' ts ss
unfolding after_word after_quoted
name_read what n d l c s' [] ss short h sp = absurd sp
name_read what n d l c s' (t ∷ ts) ss short h sp =
    let ok : after_name what (reader (at.Name what) d l c) n ≡ Ok s' = short_named what _ n short ∙ h in
    let f = fits_name t.token n (reader (at.Name what) d l c) s' sp.0 ok ok in
    record { rest = ts; spelled = sp.1; same = one _ _ t ts f.0 f.1 }

-- one more parenthesis
pub paren_opened : (place : Place) (s : Reader) → s.depth < 64 → with_paren_opened place s ≡ Ok (reader_at s place (s.depth + 1))
paren_opened place s h = let e : nat_le 64 s.depth ≡ false = below_limit _ _ h in rw e refl

-- Ignored lists.
abbrev pub ignoring_reader : Reader → Within → ℕ → ℕ → Reader
ignoring_reader s w base d = reader_at s (at.Ignored w base) d

pub ignored_opens : (s : Reader) (w : Within) (base d : ℕ) → d < 64 → after_open (ignoring_reader s w base d) ≡ Ok (ignoring_reader s w base (d + 1))
unfolding after_open
ignored_opens s w base d h = paren_opened (at.Ignored w base) (ignoring_reader s w base d) h

pub ignored_closes : (s : Reader) (w : Within) (base d : ℕ) → base ≤ d → after_close (ignoring_reader s w base (d + 1)) ≡ Ok (ignoring_reader s w base d)
unfolding after_close
ignored_closes s w base d h = let e : (d + 1 == base) ≡ false = above base d h in rw (e, down d) refl

pub ignored_ends : (s : Reader) (w : Within) (d : ℕ) → after_close (ignoring_reader s w (d + 1) (d + 1)) ≡ Ok (reader_at s (place_behind w) d)
unfolding after_close
ignored_ends s w d = let e : (d + 1 == d + 1) ≡ true = same_number (d + 1) in rw (e, down d) refl

ignored_read : (i : Ignored) (s : Reader) (w : Within) (base d : ℕ) (ts : List Lexed) (ss : List Symbol) → base ≤ d → ignored_fit d i → Spells ts (ignored_then i ss) → ReadsSymbols (ignoring_reader s w base d) (ignoring_reader s w base d) ts ss
unfolding after_word after_quoted
ignored_read NoMore s w base d ts ss le fit sp = record { rest = ts; spelled = sp; same = refl }
ignored_read (AName others) s w base d ts ss le fit sp =
    let a = any_read (ignoring_reader s w base d) (ignoring_reader s w base d) ts _ (λ n. refl) (λ n. refl) sp in
    let r = ignored_read others s w base d a.rest ss le fit a.spelled in
    record { rest = r.rest; spelled = r.spelled; same = a.same ∙ r.same }
ignored_read (AList inside others) s w base d ts ss le fit sp =
    let a = left_read (ignoring_reader s w base d) (ignoring_reader s w base (d + 1)) ts _ (ignored_opens s w base d fit.0) sp in
    let more : base ≤ d + 1 = omega arith in
    let b = ignored_read inside s w base (d + 1) a.rest _ more fit.1 a.spelled in
    let e = right_read (ignoring_reader s w base (d + 1)) (ignoring_reader s w base d) b.rest _ (ignored_closes s w base d le) b.spelled in
    let r = ignored_read others s w base d e.rest ss le fit.2 e.spelled in
    record { rest = r.rest; spelled = r.spelled; same = a.same ∙ b.same ∙ e.same ∙ r.same }

-- an ignored list with its parentheses and its keyword
pub list_read : (k : Keyword) (h : Head) (w : Within) (i : Ignored) (p : Place) (s : Reader) (d : ℕ) (ts : List Lexed) (ss : List Symbol) → after_open (reader_at s p d) ≡ Ok (reader_at s (at.Head h) (d + 1))
    → place_behind_keyword h (d + 1) (Some k) ≡ Some (at.Ignored w (d + 1)) → ignored_fit (d + 1) i → Spells ts (LeftParen ∷ Means k ∷ ignored_then i (RightParen ∷ ss))
    → ReadsSymbols (reader_at s p d) (reader_at s (place_behind w) d) ts ss
unfolding after_word
list_read k h w i p s d ts ss opens begins fit sp =
    let a = left_read (reader_at s p d) (reader_at s (at.Head h) (d + 1)) ts _ opens sp in
    let b = keyword_read k (reader_at s (at.Head h) (d + 1)) (ignoring_reader s w (d + 1) (d + 1)) a.rest _ (λ n e. rw (e, begins) refl) a.spelled in
    let le : d + 1 ≤ d + 1 = omega arith in
    let i = ignored_read i s w (d + 1) (d + 1) b.rest _ le fit b.spelled in
    let e = right_read (ignoring_reader s w (d + 1) (d + 1)) (reader_at s (place_behind w) d) i.rest ss (ignored_ends s w d) i.spelled in
    record { rest = e.rest; spelled = e.spelled; same = a.same ∙ b.same ∙ i.same ∙ e.same }

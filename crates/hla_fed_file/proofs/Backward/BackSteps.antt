-- What is read is in the grammar: one token back, and ignored lists.
use Rattle.hla_base.specs.Limits.{max_name}
use Rattle.std.proofs.Common.{◌≡◌, ℕ, ◌+◌, ◌<◌, ◌≤◌, ◌==◌, Bool, true, false, List, [], ◌∷◌, length, Option, None, Some, Ok, Err, nat_lt, nat_le, cond, refl, sym, ap, ◌∙◌, arith, ◌⊎◌, inl, inr, zero, suc}
use Rattle.std.proofs.lemmas.Bool.Decides.{nat_tests}
use Rattle.hla_fed_file.specs.Lexical as text
use Rattle.hla_fed_file.specs.Lexical.{Lexed, tokens}
use Rattle.hla_fed_file.specs.Tokens.{is_end}
use Rattle.hla_fed_file.specs.Keywords.{keyword_of}
use Rattle.hla_catalogue.specs.CatalogueValue.{CatalogueValue}
use Rattle.hla_fed_file.specs.Reading.{reading, after_token, after_open, after_close, after_word, after_quoted, after_name, after_name_at, place_behind_keyword, with_paren_opened, place_behind, head_in, with_place, is_done, outcome_after, ending_of, Outcome, Step}
use Rattle.hla_fed_file.specs.Grammar.{Symbol, LeftParen, RightParen, Means, Named, AnyName, Fits, Spells, Ignored, NoMore, AName, AList, ignored_then, IsShort, ignored_fit}
use Rattle.hla_fed_file.specs.declared.fault.FedFaultKind.TheVariants as kind
use Rattle.hla_fed_file.specs.declared.place.Keyword.{Keyword}
use Rattle.hla_fed_file.specs.declared.place.Keyword.TheVariants as word
use Rattle.hla_fed_file.specs.declared.place.Head.{Head}
use Rattle.hla_fed_file.specs.declared.place.Head.TheVariants as head
use Rattle.hla_fed_file.specs.declared.place.NameOf.{NameOf}
use Rattle.hla_fed_file.specs.declared.place.Lists.{Lists}
use Rattle.hla_fed_file.specs.declared.place.Within.{Within}
use Rattle.hla_fed_file.specs.declared.place.Within.TheVariants as within
use Rattle.hla_fed_file.specs.declared.place.Place.{Place}
use Rattle.hla_fed_file.specs.declared.place.Place.TheVariants as at
use Rattle.hla_fed_file.specs.declared.reader.Reader.{Reader}
use Rattle.hla_fed_file.proofs.Forward.ReadSteps.{ignored_closes, ignored_ends, ignoring_reader, reader_at, reader}

pub ok_same : (r : Step) (x y : Reader) → r ≡ Ok x → r ≡ Ok y → x ≡ y
ok_same r x y h g = cc

pub at_next : (s s' : Reader) (ts : List Lexed) (final : CatalogueValue) → s ≡ s' → reading s ts ≡ Ok final → reading s' ts ≡ Ok final
at_next s s' ts final e h = ap (λ (r : Reader). reading r ts) (sym e) ∙ h

-- one token back: reading goes on behind it
pub record Back (s : Reader) (t : Lexed) (ts : List Lexed) (final : CatalogueValue) : Type 0 where
  pub more : is_end t.token ≡ false
  pub next : Reader
  pub step : after_token s t.token ≡ Ok next
  pub read : reading next ts ≡ Ok final

token_step_back : (s : Reader) (t : Lexed) (ts : List Lexed) (final : CatalogueValue) (b : Bool) (r : Step) → is_end t.token ≡ b → after_token s t.token ≡ r → is_done s.place ≡ false
    → cond b (ending_of t.line s) (outcome_after t.line r (λ s'. reading s' ts)) ≡ Ok final → Back s t ts final
token_step_back s t ts final true r e h d ok = absurd (not_done (is_done s.place) d ok)
  where
    not_done : (b : Bool) → b ≡ false → cond {A = Outcome} b (Ok s.catalogue) (Err (record { line = t.line; kind = kind.UnexpectedEnd })) ≡ Ok final → ⊥
    not_done true d ok = cc
    not_done false d ok = cc
token_step_back s t ts final false (Ok s') e h d ok = record { more = e; next = s'; step = h; read = ok }
token_step_back s t ts final false (Err k) e h d ok = cc

pub back : (s : Reader) (t : Lexed) (ts : List Lexed) (final : CatalogueValue) → is_done s.place ≡ false → reading s (t ∷ ts) ≡ Ok final → Back s t ts final
unfolding reading
back s t ts final d ok = token_step_back s t ts final (is_end t.token) (after_token s t.token) refl refl d ok

pub none_left : (s : Reader) (final : CatalogueValue) → is_done s.place ≡ false → reading s [] ≡ Ok final → ⊥
unfolding reading
none_left s final d ok = cc

-- What is left behind some symbols, and how the tokens before it are spelled.
pub record Tail (before : List Symbol → List Symbol) (ts : List Lexed) (s' : Reader) (final : CatalogueValue) : Type 0 where
  pub rest : List Lexed
  pub fewer : length rest ≤ length ts
  pub spelled : (ss : List Symbol) → Spells rest ss → Spells ts (before ss)
  pub read : reading s' rest ≡ Ok final

-- one more parenthesis was open
paren_opened_back : (b : Bool) (place : Place) (s next : Reader) → nat_le 64 s.depth ≡ b → cond {A = Step} b (Err kind.TooLarge) (Ok (reader_at s place (s.depth + 1))) ≡ Ok next → (s.depth < 64) × (next ≡ reader_at s place (s.depth + 1))
paren_opened_back true place s next e ok = cc
paren_opened_back false place s next e ok = let less : s.depth < 64 = grind (arith, nat_tests) in (less, cc)

pub paren_opened_step : (place : Place) (s next : Reader) → with_paren_opened place s ≡ Ok next → (s.depth < 64) × (next ≡ reader_at s place (s.depth + 1))
paren_opened_step place s next ok = paren_opened_back (nat_le 64 s.depth) place s next refl ok

-- where a list may begin or end
pub between_token : (token : text.Token) (i : Lists) (d : ℕ) (l : List ℕ) (c : CatalogueValue) (next : Reader) → after_token (reader (at.Between i) d l c) token ≡ Ok next
    → (Fits token LeftParen × (d < 64) × (next ≡ reader (at.Head (head_in i)) (d + 1) l c)) ⊎ (Fits token RightParen × (after_close (reader (at.Between i) d l c) ≡ Ok next))
unfolding after_open after_word after_quoted
between_token text.Open i d l c next ok = let p = paren_opened_step (at.Head (head_in i)) (reader (at.Between i) d l c) next ok in inl (tt, p.0, p.1)
between_token text.Close i d l c next ok = inr (tt, ok)
between_token (text.Word w) i d l c next ok = cc
between_token (text.Quoted w) i d l c next ok = cc
between_token text.Bad i d l c next ok = cc
between_token text.Unclosed i d l c next ok = cc
between_token text.End i d l c next ok = cc

-- a keyword
pub record HeadRead (token : text.Token) (h : Head) (d : ℕ) (s next : Reader) : Type 0 where
  pub keyword : Keyword
  pub fits : Fits token (Means keyword)
  pub place : Place
  pub begins : place_behind_keyword h d (Some keyword) ≡ Some place
  pub then : next ≡ reader_at s place d

no_place_behind_keyword : (h : Head) (d : ℕ) → place_behind_keyword h d None ≡ None
no_place_behind_keyword head.File d = refl
no_place_behind_keyword head.Part d = refl
no_place_behind_keyword head.ObjectClass d = refl
no_place_behind_keyword head.ObjectItem d = refl
no_place_behind_keyword head.AttributeItem d = refl
no_place_behind_keyword head.InteractionClass d = refl
no_place_behind_keyword head.InteractionItem d = refl
no_place_behind_keyword head.ParameterItem d = refl

place_step : (o : Option Place) (s next : Reader) → with_place o s ≡ Ok next → (place : Place) × (o ≡ Some place) × (next ≡ record s { place = place })
place_step None s next ok = cc
place_step (Some place) s next ok = (place, refl, cc)

head_word : (w : List ℕ) (k : Option Keyword) (h : Head) (d : ℕ) (s next : Reader) → keyword_of w ≡ k → with_place (place_behind_keyword h d k) (reader_at s (at.Head h) d) ≡ Ok next → HeadRead (text.Word w) h d s next
head_word w None h d s next e ok =
    let g = place_step (place_behind_keyword h d None) (reader_at s (at.Head h) d) next ok in
    let bad : None ≡ Some g.0 = sym (no_place_behind_keyword h d) ∙ g.1 in
    absurd (let no : ⊥ = cc in no)
head_word w (Some k) h d s next e ok =
    let g = place_step (place_behind_keyword h d (Some k)) (reader_at s (at.Head h) d) next ok in
    record { keyword = k; fits = e; place = g.0; begins = g.1; then = g.2 }

pub head_token : (token : text.Token) (h : Head) (d : ℕ) (s next : Reader) → after_token (reader_at s (at.Head h) d) token ≡ Ok next → HeadRead token h d s next
unfolding after_open after_close after_word after_quoted
head_token text.Open h d s next ok = cc
head_token text.Close h d s next ok = cc
head_token (text.Word w) h d s next ok = head_word w (keyword_of w) h d s next refl ok
head_token (text.Quoted w) h d s next ok = cc
head_token text.Bad h d s next ok = cc
head_token text.Unclosed h d s next ok = cc
head_token text.End h d s next ok = cc

-- a name
pub record NameRead (token : text.Token) (what : NameOf) (s next : Reader) : Type 0 where
  pub name : List ℕ
  pub fits : Fits token (Named name)
  pub named : after_name what s name ≡ Ok next

pub name_token : (token : text.Token) (what : NameOf) (d : ℕ) (l : List ℕ) (c : CatalogueValue) (next : Reader) → after_token (reader (at.Name what) d l c) token ≡ Ok next → NameRead token what (reader (at.Name what) d l c) next
unfolding after_open after_close after_word after_quoted
name_token text.Open what d l c next ok = cc
name_token text.Close what d l c next ok = cc
name_token (text.Word w) what d l c next ok = record { name = w; fits = refl; named = ok }
name_token (text.Quoted w) what d l c next ok = record { name = w; fits = refl; named = ok }
name_token text.Bad what d l c next ok = cc
name_token text.Unclosed what d l c next ok = cc
name_token text.End what d l c next ok = cc

short_name_back : (a b : Bool) (n : List ℕ) (x : Step) (next : Reader) → (length n == 0) ≡ a → nat_lt max_name (length n) ≡ b → cond a (Err kind.ExpectedName) (cond b (Err kind.TooLarge) x) ≡ Ok next → IsShort n × (x ≡ Ok next)
short_name_back true b n x next h g ok = cc
short_name_back false true n x next h g ok = cc
short_name_back false false n x next h g ok = let some : 0 < length n = grind (arith, nat_tests) in let few : length n ≤ max_name = grind (arith, nat_tests) in ((some, few), ok)

pub was_named : (what : NameOf) (s next : Reader) (n : List ℕ) → after_name what s n ≡ Ok next → IsShort n × (after_name_at what s n ≡ Ok next)
unfolding after_name
was_named what s next n ok = short_name_back (length n == 0) (nat_lt max_name (length n)) n (after_name_at what s n) next refl refl ok

-- a limit was kept
pub kept_limit : (b : Bool) (m n : ℕ) (s next : Reader) → nat_le m n ≡ b → cond {A = Step} b (Err kind.TooLarge) (Ok s) ≡ Ok next → (n < m) × (next ≡ s)
kept_limit true m n s next h ok = cc
kept_limit false m n s next h ok = let less : n < m = grind (arith, nat_tests) in (less, cc)

pub kept_room : (b e : Bool) (m n : ℕ) (x y next : Reader) → nat_le m n ≡ e → cond {A = Step} b (Ok x) (cond {A = Step} e (Err kind.TooLarge) (Ok y)) ≡ Ok next → (b ≡ false → n < m) × (next ≡ cond b x y)
kept_room true e m n x y next h ok = ((λ bad. cc), cc)
kept_room false true m n x y next h ok = cc
kept_room false false m n x y next h ok = let less : n < m = grind (arith, nat_tests) in ((λ _. less), cc)

-- Ignored lists.
ignored_token : (token : text.Token) (s : Reader) (w : Within) (base d : ℕ) (next : Reader) → after_token (ignoring_reader s w base d) token ≡ Ok next
    → ((Fits token LeftParen × (d < 64) × (next ≡ ignoring_reader s w base (d + 1))) ⊎ (Fits token AnyName × (next ≡ ignoring_reader s w base d))) ⊎ (Fits token RightParen × (after_close (ignoring_reader s w base d) ≡ Ok next))
unfolding after_open after_word after_quoted
ignored_token text.Open s w base d next ok = let p = paren_opened_step (at.Ignored w base) (ignoring_reader s w base d) next ok in inl (inl (tt, p.0, p.1))
ignored_token text.Close s w base d next ok = inr (tt, ok)
ignored_token (text.Word n) s w base d next ok = inl (inr (tt, cc))
ignored_token (text.Quoted n) s w base d next ok = inl (inr (tt, cc))
ignored_token text.Bad s w base d next ok = cc
ignored_token text.Unclosed s w base d next ok = cc
ignored_token text.End s w base d next ok = cc

record IgnoredRead (s : Reader) (w : Within) (base d : ℕ) (ts : List Lexed) (final : CatalogueValue) : Type 0 where
  ignored : Ignored
  fit : ignored_fit d ignored
  after : Reader
  closing : after_close (ignoring_reader s w base d) ≡ Ok after
  tail : Tail (λ ss. ignored_then ignored (RightParen ∷ ss)) ts after final

ignored_back : (n : ℕ) (s : Reader) (w : Within) (base d : ℕ) (ts : List Lexed) (final : CatalogueValue) → length ts ≤ n → base ≤ d → reading (ignoring_reader s w base d) ts ≡ Ok final → IgnoredRead s w base d ts final
ignored_back n s w base d [] final few le h = absurd (none_left (ignoring_reader s w base d) final refl h)
ignored_back zero s w base d (t ∷ ts) final few le h = absurd (omega arith)
ignored_back (suc n) s w base d (t ∷ ts) final few le h =
    let b = back (ignoring_reader s w base d) t ts final refl h in
    elim (ignored_token t.token s w base d b.next b.step) [
      | inr p ↦ record { ignored = NoMore; fit = tt; after = b.next; closing = p.1; tail = record { rest = ts; fewer = omega arith; spelled = λ ss sp. (p.0, sp); read = b.read } }
      | inl q ↦ elim q [
        | inr p ↦
            let fewer : length ts ≤ n = omega arith in
            let r = ignored_back n s w base d ts final fewer le (at_next _ _ ts final p.1 b.read) in
            let less : length r.tail.rest ≤ length (t ∷ ts) = omega (arith, r.tail.fewer) in
            record { ignored = AName r.ignored; fit = r.fit; after = r.after; closing = r.closing; tail = record { rest = r.tail.rest; fewer = less; spelled = λ ss sp. (p.0, r.tail.spelled ss sp); read = r.tail.read } }
        | inl p ↦
            let fewer : length ts ≤ n = omega arith in
            let more : base ≤ d + 1 = omega arith in
            let a = ignored_back n s w base (d + 1) ts final fewer more (at_next _ _ ts final p.2 b.read) in
            let behind : a.after ≡ ignoring_reader s w base d = ok_same _ _ _ a.closing (ignored_closes s w base d le) in
            let fewer2 : length a.tail.rest ≤ n = omega (arith, a.tail.fewer) in
            let r = ignored_back n s w base d a.tail.rest final fewer2 le (at_next _ _ a.tail.rest final behind a.tail.read) in
            let less : length r.tail.rest ≤ length (t ∷ ts) = omega (arith, a.tail.fewer, r.tail.fewer) in
            record {
              ignored = AList a.ignored r.ignored;
              fit = (p.1, a.fit, r.fit);
              after = r.after;
              closing = r.closing;
              tail = record { rest = r.tail.rest; fewer = less; spelled = λ ss sp. (p.0, a.tail.spelled _ (r.tail.spelled ss sp)); read = r.tail.read };
            }
      ]
    ]

-- an ignored list behind its keyword
pub record ListRead (s : Reader) (w : Within) (d : ℕ) (ts : List Lexed) (final : CatalogueValue) : Type 0 where
  pub ignored : Ignored
  pub fit : ignored_fit (d + 1) ignored
  pub tail : Tail (λ ss. ignored_then ignored (RightParen ∷ ss)) ts (reader_at s (place_behind w) d) final

pub list_back : (s : Reader) (w : Within) (d : ℕ) (ts : List Lexed) (final : CatalogueValue) → reading (ignoring_reader s w (d + 1) (d + 1)) ts ≡ Ok final → ListRead s w d ts final
list_back s w d ts final h =
    let a = ignored_back (length ts) s w (d + 1) (d + 1) ts final (omega arith) (omega arith) h in
    let behind : a.after ≡ reader_at s (place_behind w) d = ok_same _ _ _ a.closing (ignored_ends s w d) in
    record { ignored = a.ignored; fit = a.fit; tail = record { rest = a.tail.rest; fewer = a.tail.fewer; spelled = a.tail.spelled; read = at_next _ _ a.tail.rest final behind a.tail.read } }

-- the keyword of a list of security levels, in an attribute and in a parameter
pub level_begun : (k : Keyword) (d : ℕ) (place : Place) → place_behind_keyword head.AttributeItem d (Some k) ≡ Some place → (k ≡ word.SecLevel) × (place ≡ at.Ignored within.Attribute d)
level_begun word.SecLevel d place h = (refl, cc)
level_begun k d place h = cc

pub parameter_level_begun : (k : Keyword) (d : ℕ) (place : Place) → place_behind_keyword head.ParameterItem d (Some k) ≡ Some place → (k ≡ word.SecLevel) × (place ≡ at.Ignored within.Parameter d)
parameter_level_begun word.SecLevel d place h = (refl, cc)
parameter_level_begun k d place h = cc

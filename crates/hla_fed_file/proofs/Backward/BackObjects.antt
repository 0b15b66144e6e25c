-- What is read is in the grammar: attributes and object classes.
use Rattle.hla_base.specs.Limits.{max_attributes, max_classes}
use Rattle.std.proofs.Common.{◌≡◌, ℕ, ◌+◌, ◌<◌, ◌≤◌, Bool, true, false, List, [], ◌∷◌, length, Option, None, Some, Ok, nat_le, cond, refl, sym, ap, ◌∙◌, arith, ◌⊎◌, inl, inr, zero, suc}
use Rattle.hla_fed_file.specs.Lexical as text
use Rattle.hla_fed_file.specs.Lexical.{Lexed, tokens}
use Rattle.hla_fed_file.specs.Keywords.{keyword_of}
use Rattle.hla_catalogue.specs.CatalogueValue.{CatalogueValue}
use Rattle.hla_catalogue.specs.Declaring.{innermost, with_object_class, with_attribute, has_attribute_named}
use Rattle.hla_fed_file.specs.Reading.{reading, after_token, after_open, after_close, after_word, after_quoted, after_name_at, place_behind_keyword, attribute_option, is_done}
use Rattle.hla_fed_file.specs.Grammar.{Symbol, LeftParen, RightParen, Means, Named, AnyName, Fits, Options, Bare, Ordered, SecLevels, NoLevel, ALevel, ObjectItems, NoItem, AnAttribute, ASecLevel, AClass, space_then, options_then, levels_then, object_items_then, transport_of, order_of, object_items_declare, IsShort, levels_fit, AttributeFits, object_items_fit}
use Rattle.hla_catalogue.specs.declared.declared.Attribute.{Attribute}
use Rattle.hla_catalogue.specs.declared.declared.Order.{Order}
use Rattle.hla_catalogue.specs.declared.declared.Order.TheVariants as order
use Rattle.hla_catalogue.specs.declared.declared.Transport.{Transport}
use Rattle.hla_catalogue.specs.declared.declared.Transport.TheVariants as transport
use Rattle.hla_fed_file.specs.declared.place.Keyword.{Keyword}
use Rattle.hla_fed_file.specs.declared.place.Keyword.TheVariants as word
use Rattle.hla_fed_file.specs.declared.place.Head.TheVariants as head
use Rattle.hla_fed_file.specs.declared.place.NameOf.TheVariants as name
use Rattle.hla_fed_file.specs.declared.place.Lists.TheVariants as lists
use Rattle.hla_fed_file.specs.declared.place.OptionStage.TheVariants as stage
use Rattle.hla_fed_file.specs.declared.place.Within.TheVariants as within
use Rattle.hla_fed_file.specs.declared.place.Place.{Place}
use Rattle.hla_fed_file.specs.declared.place.Place.TheVariants as at
use Rattle.hla_fed_file.specs.declared.reader.Reader.{Reader}
use Rattle.hla_fed_file.proofs.Forward.ReadSteps.{fits_left, fits_right, half, ignoring_reader, reader_at, reader}
use Rattle.hla_fed_file.proofs.Forward.ReadObjects.{EndsAttribute, with_options, attribute_ends, with_transport_option, class_closes, end_ends, kept_declares, kept_of, options_end, with_order_option, with_kept}
use Rattle.hla_fed_file.proofs.Backward.BackSteps.{Tail, at_next, back, between_token, head_token, kept_limit, kept_room, level_begun, list_back, name_token, none_left, ok_same, was_named, paren_opened_step}

-- Attributes.

-- behind a token at a place in which an attribute may end
attribute_end_token : (token : text.Token) (d : ℕ) (l : List ℕ) (kept : Option Attribute) (c : CatalogueValue) (next : Reader) → after_token (half at.AttributeEnd d l kept c) token ≡ Ok next → Fits token LeftParen ⊎ Fits token RightParen
unfolding after_word after_quoted
attribute_end_token text.Open d l kept c next ok = inl tt
attribute_end_token text.Close d l kept c next ok = inr tt
attribute_end_token (text.Word w) d l kept c next ok = cc
attribute_end_token (text.Quoted w) d l kept c next ok = cc
attribute_end_token text.Bad d l kept c next ok = cc
attribute_end_token text.Unclosed d l kept c next ok = cc
attribute_end_token text.End d l kept c next ok = cc

attribute_deeper : (p : Place) (d : ℕ) (l : List ℕ) (kept : Option Attribute) (c : CatalogueValue) (next : Reader) → EndsAttribute p → after_open (half p d l kept c) ≡ Ok next
    → (d < 64) × (next ≡ half (at.Head head.AttributeItem) (d + 1) l kept c)
unfolding after_open
attribute_deeper p d l kept c next e ok = paren_opened_step (at.Head head.AttributeItem) (half p d l kept c) next (sym (e.opens (half p d l kept c)) ∙ ok)

-- the security levels of an attribute, and its end
record LevelsRead (d : ℕ) (l : List ℕ) (kept : Option Attribute) (c : CatalogueValue) (ts : List Lexed) (final : CatalogueValue) : Type 0 where
  levels : SecLevels
  fit : levels_fit (d + 1) levels
  tail : Tail (λ ss. levels_then levels (RightParen ∷ ss)) ts (reader (at.Between lists.ObjectItems) d l (with_kept kept c)) final

abbrev NotDone : Place → Type 0
NotDone p = is_done p ≡ false

-- a parenthesis is next
abbrev StartsParen : List Lexed → Type 0
StartsParen [] = ⊥
StartsParen (t ∷ ts) = Fits t.token LeftParen ⊎ Fits t.token RightParen

ends_or_opens : (d : ℕ) (l : List ℕ) (kept : Option Attribute) (c : CatalogueValue) (ts : List Lexed) (final : CatalogueValue) → reading (half at.AttributeEnd d l kept c) ts ≡ Ok final → StartsParen ts
ends_or_opens d l kept c [] final h = none_left (half at.AttributeEnd d l kept c) final refl h
ends_or_opens d l kept c (t ∷ ts) final h =
    let b = back (half at.AttributeEnd d l kept c) t ts final refl h in
    attribute_end_token t.token d l kept c b.next b.step

levels_back : (n : ℕ) (p : Place) (d : ℕ) (l : List ℕ) (kept : Option Attribute) (c : CatalogueValue) (ts : List Lexed) (final : CatalogueValue) → length ts ≤ n → EndsAttribute p → NotDone p
    → StartsParen ts → reading (half p (d + 1) l kept c) ts ≡ Ok final → LevelsRead d l kept c ts final
levels_back n p d l kept c [] final few e nd paren h = absurd paren
levels_back n p d l kept c (t ∷ ts) final few e nd (inr right) h =
    let b = back (half p (d + 1) l kept c) t ts final nd h in
    let f = fits_right t.token (half p (d + 1) l kept c) right in
    let behind : b.next ≡ reader (at.Between lists.ObjectItems) d l (with_kept kept c) = ok_same _ _ _ (sym f.1 ∙ b.step) (attribute_ends p d l kept c e) in
    record { levels = NoLevel; fit = tt; tail = record { rest = ts; fewer = omega arith; spelled = λ ss sp. (right, sp); read = at_next _ _ ts final behind b.read } }
levels_back n p d l kept c (t ∷ []) final few e nd (inl left) h =
    let b = back (half p (d + 1) l kept c) t [] final nd h in
    let f = fits_left t.token (half p (d + 1) l kept c) left in
    let o = attribute_deeper p (d + 1) l kept c b.next e (sym f.1 ∙ b.step) in
    absurd (none_left (half (at.Head head.AttributeItem) (d + 1 + 1) l kept c) final refl (at_next _ _ [] final o.1 b.read))
levels_back zero p d l kept c (t ∷ k ∷ ts) final few e nd (inl left) h = absurd (omega arith)
levels_back (suc n) p d l kept c (t ∷ k ∷ ts) final few e nd (inl left) h =
    let b = back (half p (d + 1) l kept c) t (k ∷ ts) final nd h in
    let f = fits_left t.token (half p (d + 1) l kept c) left in
    let o = attribute_deeper p (d + 1) l kept c b.next e (sym f.1 ∙ b.step) in
    let s = half at.AttributeEnd (d + 1) l kept c in
    let w = back (reader_at s (at.Head head.AttributeItem) (d + 1 + 1)) k ts final refl (at_next _ _ (k ∷ ts) final o.1 b.read) in
    let q = head_token k.token head.AttributeItem (d + 1 + 1) s w.next w.step in
    let z = level_begun q.keyword (d + 1 + 1) q.place q.begins in
    let fits : Fits k.token (Means word.SecLevel) = rw z.0 at q.fits in
    let there : w.next ≡ ignoring_reader s within.Attribute (d + 1 + 1) (d + 1 + 1) = q.then ∙ ap (λ (place : Place). reader_at s place (d + 1 + 1)) z.1 in
    let a = list_back s within.Attribute (d + 1) ts final (at_next _ _ ts final there w.read) in
    let fewer : length a.tail.rest ≤ n = omega (arith, a.tail.fewer) in
    let r = levels_back n at.AttributeEnd d l kept c a.tail.rest final fewer end_ends refl (ends_or_opens (d + 1) l kept c a.tail.rest final a.tail.read) a.tail.read in
    let less : length r.tail.rest ≤ length (t ∷ k ∷ ts) = omega (arith, a.tail.fewer, r.tail.fewer) in
    record {
      levels = ALevel a.ignored r.levels;
      fit = (o.0, a.fit, r.fit);
      tail = record { rest = r.tail.rest; fewer = less; spelled = λ ss sp. (left, (fits, a.tail.spelled _ (r.tail.spelled ss sp))); read = r.tail.read };
    }

-- Options: a parenthesis, a transport or an order.
pub data OptionNext (token : text.Token) (next : Reader) (at_carried : Transport → Reader) (at_ordered : Order → Reader) : Type 0 where
  Paren : (paren : Fits token LeftParen ⊎ Fits token RightParen) → OptionNext token next at_carried at_ordered
  Carries : (t : Transport) (fits : Fits token (Means (word.Carried t))) (then : next ≡ at_carried t) → OptionNext token next at_carried at_ordered
  Orders : (o : Order) (fits : Fits token (Means (word.Ordered o))) (then : next ≡ at_ordered o) → OptionNext token next at_carried at_ordered

abbrev half_carried : ℕ → List ℕ → Option Attribute → CatalogueValue → Transport → Reader
half_carried d l kept c t = half (at.AttributeOptions stage.Carried) d l (with_transport_option (Some t) kept) c

abbrev half_ordered : ℕ → List ℕ → Option Attribute → CatalogueValue → Order → Reader
half_ordered d l kept c o = half (at.AttributeOptions stage.Ordered) d l (with_order_option o kept) c

named_word : (w : List ℕ) (k : Option Keyword) (d : ℕ) (l : List ℕ) (kept : Option Attribute) (c : CatalogueValue) (next : Reader) → keyword_of w ≡ k
    → attribute_option stage.Named k (half (at.AttributeOptions stage.Named) d l kept c) ≡ Ok next → OptionNext (text.Word w) next (half_carried d l kept c) (half_ordered d l kept c)
named_word w (Some (word.Carried t)) d l kept c next e ok = Carries t e cc
named_word w (Some (word.Ordered o)) d l kept c next e ok = Orders o e cc
named_word w k d l kept c next e ok = cc

named_token : (token : text.Token) (d : ℕ) (l : List ℕ) (kept : Option Attribute) (c : CatalogueValue) (next : Reader) → after_token (half (at.AttributeOptions stage.Named) d l kept c) token ≡ Ok next
    → OptionNext token next (half_carried d l kept c) (half_ordered d l kept c)
unfolding after_word after_quoted
named_token text.Open d l kept c next ok = Paren (inl tt)
named_token text.Close d l kept c next ok = Paren (inr tt)
named_token (text.Word w) d l kept c next ok = named_word w (keyword_of w) d l kept c next refl ok
named_token (text.Quoted w) d l kept c next ok = cc
named_token text.Bad d l kept c next ok = cc
named_token text.Unclosed d l kept c next ok = cc
named_token text.End d l kept c next ok = cc

carried_token : (token : text.Token) (d : ℕ) (l : List ℕ) (kept : Option Attribute) (c : CatalogueValue) (next : Reader) → after_token (half (at.AttributeOptions stage.Carried) d l kept c) token ≡ Ok next
    → (Fits token LeftParen ⊎ Fits token RightParen) ⊎ ((o : Order) × Fits token (Means (word.Ordered o)) × (next ≡ half_ordered d l kept c o))
unfolding after_word after_quoted
carried_token text.Open d l kept c next ok = inl (inl tt)
carried_token text.Close d l kept c next ok = inl (inr tt)
carried_token (text.Word w) d l kept c next ok = only_order w (keyword_of w) refl ok
  where
    only_order : (w : List ℕ) (k : Option Keyword) → keyword_of w ≡ k → attribute_option stage.Carried k (half (at.AttributeOptions stage.Carried) d l kept c) ≡ Ok next
        → (Fits (text.Word w) LeftParen ⊎ Fits (text.Word w) RightParen) ⊎ ((o : Order) × Fits (text.Word w) (Means (word.Ordered o)) × (next ≡ half_ordered d l kept c o))
    only_order w (Some (word.Ordered o)) e ok = inr (o, e, cc)
    only_order w k e ok = cc
carried_token (text.Quoted w) d l kept c next ok = cc
carried_token text.Bad d l kept c next ok = cc
carried_token text.Unclosed d l kept c next ok = cc
carried_token text.End d l kept c next ok = cc

ordered_token : (token : text.Token) (d : ℕ) (l : List ℕ) (kept : Option Attribute) (c : CatalogueValue) (next : Reader) → after_token (half (at.AttributeOptions stage.Ordered) d l kept c) token ≡ Ok next
    → (Fits token LeftParen ⊎ Fits token RightParen) ⊎ (Fits token AnyName × (next ≡ half at.AttributeEnd d l kept c))
unfolding after_word after_quoted
ordered_token text.Open d l kept c next ok = inl (inl tt)
ordered_token text.Close d l kept c next ok = inl (inr tt)
ordered_token (text.Word w) d l kept c next ok = inr (tt, cc)
ordered_token (text.Quoted w) d l kept c next ok = inr (tt, cc)
ordered_token text.Bad d l kept c next ok = cc
ordered_token text.Unclosed d l kept c next ok = cc
ordered_token text.End d l kept c next ok = cc

-- the options and the security levels of an attribute, and its end
record OptionsRead (before : Options → List Symbol → List Symbol) (d : ℕ) (l : List ℕ) (kept : Option Attribute) (c : CatalogueValue) (ts : List Lexed) (final : CatalogueValue) : Type 0 where
  options : Options
  levels : SecLevels
  fit : levels_fit (d + 1) levels
  tail : Tail (λ ss. before options (levels_then levels (RightParen ∷ ss))) ts (reader (at.Between lists.ObjectItems) d l (with_kept (with_options options kept) c)) final

-- a routing space, or none
record SpaceRead (o : Order) (d : ℕ) (l : List ℕ) (kept : Option Attribute) (c : CatalogueValue) (ts : List Lexed) (final : CatalogueValue) : Type 0 where
  space : Bool
  levels : SecLevels
  fit : levels_fit (d + 1) levels
  tail : Tail (λ ss. space_then space (levels_then levels (RightParen ∷ ss))) ts (reader (at.Between lists.ObjectItems) d l (with_kept kept c)) final

space_back : (o : Order) (d : ℕ) (l : List ℕ) (kept : Option Attribute) (c : CatalogueValue) (ts : List Lexed) (final : CatalogueValue) → reading (half (at.AttributeOptions stage.Ordered) (d + 1) l kept c) ts ≡ Ok final → SpaceRead o d l kept c ts final
space_back o d l kept c [] final h = absurd (none_left (half (at.AttributeOptions stage.Ordered) (d + 1) l kept c) final refl h)
space_back o d l kept c (t ∷ ts) final h =
    let b = back (half (at.AttributeOptions stage.Ordered) (d + 1) l kept c) t ts final refl h in
    elim (ordered_token t.token (d + 1) l kept c b.next b.step) [
      | inl paren ↦
          let r = levels_back (length (t ∷ ts)) (at.AttributeOptions stage.Ordered) d l kept c (t ∷ ts) final (omega arith) (options_end (Ordered None o false)) refl paren h in
          record { space = false; levels = r.levels; fit = r.fit; tail = r.tail }
      | inr p ↦
          let read = at_next _ _ ts final p.1 b.read in
          let r = levels_back (length ts) at.AttributeEnd d l kept c ts final (omega arith) end_ends refl (ends_or_opens (d + 1) l kept c ts final read) read in
          let less : length r.tail.rest ≤ length (t ∷ ts) = omega (arith, r.tail.fewer) in
          record { space = true; levels = r.levels; fit = r.fit; tail = record { rest = r.tail.rest; fewer = less; spelled = λ ss sp. (p.0, r.tail.spelled ss sp); read = r.tail.read } }
    ]

-- behind a transport
carried_back : (t : Transport) (d : ℕ) (l : List ℕ) (kept : Option Attribute) (c : CatalogueValue) (u : Lexed) (ts : List Lexed) (final : CatalogueValue) → Fits u.token (Means (word.Carried t))
    → reading (half_carried (d + 1) l kept c t) ts ≡ Ok final → OptionsRead options_then d l kept c (u ∷ ts) final
carried_back t d l kept c u [] final fits h = absurd (none_left (half_carried (d + 1) l kept c t) final refl h)
carried_back t d l kept c u (v ∷ ts) final fits h =
    let b = back (half_carried (d + 1) l kept c t) v ts final refl h in
    elim (carried_token v.token (d + 1) l (with_transport_option (Some t) kept) c b.next b.step) [
      | inl paren ↦
          let r = levels_back (length (v ∷ ts)) (at.AttributeOptions stage.Carried) d l (with_transport_option (Some t) kept) c (v ∷ ts) final (omega arith) (options_end (Bare (Some t))) refl paren h in
          let less : length r.tail.rest ≤ length (u ∷ v ∷ ts) = omega (arith, r.tail.fewer) in
          record { options = Bare (Some t); levels = r.levels; fit = r.fit; tail = record { rest = r.tail.rest; fewer = less; spelled = λ ss sp. (fits, r.tail.spelled ss sp); read = r.tail.read } }
      | inr p ↦
          let r = space_back p.0 d l (with_order_option p.0 (with_transport_option (Some t) kept)) c ts final (at_next _ _ ts final p.2 b.read) in
          let less : length r.tail.rest ≤ length (u ∷ v ∷ ts) = omega (arith, r.tail.fewer) in
          record { options = Ordered (Some t) p.0 r.space; levels = r.levels; fit = r.fit; tail = record { rest = r.tail.rest; fewer = less; spelled = λ ss sp. (fits, (p.1, r.tail.spelled ss sp)); read = r.tail.read } }
    ]

options_back : (d : ℕ) (l : List ℕ) (kept : Option Attribute) (c : CatalogueValue) (ts : List Lexed) (final : CatalogueValue) → reading (half (at.AttributeOptions stage.Named) (d + 1) l kept c) ts ≡ Ok final → OptionsRead options_then d l kept c ts final
options_back d l kept c [] final h = absurd (none_left (half (at.AttributeOptions stage.Named) (d + 1) l kept c) final refl h)
options_back d l kept c (t ∷ ts) final h =
    let b = back (half (at.AttributeOptions stage.Named) (d + 1) l kept c) t ts final refl h in
    elim (named_token t.token (d + 1) l kept c b.next b.step) [
      | Paren paren ↦
          let r = levels_back (length (t ∷ ts)) (at.AttributeOptions stage.Named) d l kept c (t ∷ ts) final (omega arith) (options_end (Bare None)) refl paren h in
          record { options = Bare None; levels = r.levels; fit = r.fit; tail = r.tail }
      | Carries u fits then ↦ carried_back u d l kept c t ts final fits (at_next _ _ ts final then b.read)
      | Orders o fits then ↦
          let r = space_back o d l (with_order_option o kept) c ts final (at_next _ _ ts final then b.read) in
          let less : length r.tail.rest ≤ length (t ∷ ts) = omega (arith, r.tail.fewer) in
          record { options = Ordered None o r.space; levels = r.levels; fit = r.fit; tail = record { rest = r.tail.rest; fewer = less; spelled = λ ss sp. (fits, r.tail.spelled ss sp); read = r.tail.read } }
    ]

-- an attribute behind its keyword
record AttributeRead (d : ℕ) (l : List ℕ) (c : CatalogueValue) (ts : List Lexed) (final : CatalogueValue) : Type 0 where
  name : List ℕ
  options : Options
  levels : SecLevels
  short : IsShort name
  room : AttributeFits l name c
  fit : levels_fit (d + 1) levels
  tail : Tail (λ ss. Named name ∷ options_then options (levels_then levels (RightParen ∷ ss))) ts (reader (at.Between lists.ObjectItems) d l (with_attribute l name (transport_of options) (order_of options) c)) final

attribute_name_read : (n : List ℕ) (d : ℕ) (l : List ℕ) (c : CatalogueValue) (next : Reader) → after_name_at name.Attribute (reader (at.Name name.Attribute) d l c) n ≡ Ok next
    → AttributeFits l n c × (next ≡ half (at.AttributeOptions stage.Named) d l (kept_of l n c) c)
attribute_name_read n d l c next ok =
    let k = kept_room (has_attribute_named c l n) (nat_le max_attributes (length c.attributes)) max_attributes (length c.attributes) (half (at.AttributeOptions stage.Named) d l None c)
    (half (at.AttributeOptions stage.Named) d l (Some (record { class = innermost l; name = n; transport = transport.Reliable; order = order.Receive })) c) next refl ok in
    (k.0, k.1 ∙ chosen (has_attribute_named c l n) (Some (record { class = innermost l; name = n; transport = transport.Reliable; order = order.Receive })))
  where
    chosen : (b : Bool) (some : Option Attribute) → cond b (half (at.AttributeOptions stage.Named) d l None c) (half (at.AttributeOptions stage.Named) d l some c) ≡ half (at.AttributeOptions stage.Named) d l (cond b None some) c
    chosen true some = refl
    chosen false some = refl

attribute_back : (d : ℕ) (l : List ℕ) (c : CatalogueValue) (ts : List Lexed) (final : CatalogueValue) → reading (reader (at.Name name.Attribute) (d + 1) l c) ts ≡ Ok final → AttributeRead d l c ts final
attribute_back d l c [] final h = absurd (none_left (reader (at.Name name.Attribute) (d + 1) l c) final refl h)
attribute_back d l c (t ∷ ts) final h =
    let b = back (reader (at.Name name.Attribute) (d + 1) l c) t ts final refl h in
    let n = name_token t.token name.Attribute (d + 1) l c b.next b.step in
    let s = was_named name.Attribute (reader (at.Name name.Attribute) (d + 1) l c) b.next n.name n.named in
    let k = attribute_name_read n.name (d + 1) l c b.next s.1 in
    let o = options_back d l (kept_of l n.name c) c ts final (at_next _ _ ts final k.1 b.read) in
    let declares = kept_declares (has_attribute_named c l n.name) l n.name o.options c in
    let less : length o.tail.rest ≤ length (t ∷ ts) = omega (arith, o.tail.fewer) in
    record {
      name = n.name;
      options = o.options;
      levels = o.levels;
      short = s.0;
      room = k.0;
      fit = o.fit;
      tail = record { rest = o.tail.rest; fewer = less; spelled = λ ss sp. (n.fits, o.tail.spelled ss sp); read = at_next _ _ o.tail.rest final (ap (reader (at.Between lists.ObjectItems) d l) declares) o.tail.read };
    }

-- Object classes.
pub record ClassRead (d : ℕ) (l : List ℕ) (c : CatalogueValue) (ts : List Lexed) (final : CatalogueValue) : Type 0 where
  pub name : List ℕ
  pub short : IsShort name
  pub room : length c.object_classes < max_classes
  pub tail : Tail (λ ss. Named name ∷ ss) ts (reader (at.Between lists.ObjectItems) d ((length c.object_classes + 1) ∷ l) (with_object_class l name c)) final

pub class_back : (d : ℕ) (l : List ℕ) (c : CatalogueValue) (ts : List Lexed) (final : CatalogueValue) → reading (reader (at.Name name.ObjectClass) d l c) ts ≡ Ok final → ClassRead d l c ts final
class_back d l c [] final h = absurd (none_left (reader (at.Name name.ObjectClass) d l c) final refl h)
class_back d l c (t ∷ ts) final h =
    let b = back (reader (at.Name name.ObjectClass) d l c) t ts final refl h in
    let n = name_token t.token name.ObjectClass d l c b.next b.step in
    let s = was_named name.ObjectClass (reader (at.Name name.ObjectClass) d l c) b.next n.name n.named in
    let k = kept_limit (nat_le max_classes (length c.object_classes)) max_classes (length c.object_classes) (reader (at.Between lists.ObjectItems) d ((length c.object_classes + 1) ∷ l) (with_object_class l n.name c)) b.next refl s.1 in
    record { name = n.name; short = s.0; room = k.0; tail = record { rest = ts; fewer = omega arith; spelled = λ ss sp. (n.fits, sp); read = at_next _ _ ts final k.1 b.read } }

data ObjectItemBegins (k : Keyword) (d : ℕ) (place : Place) : Type 0 where
  BeginsClass : (keyword : k ≡ word.Class) (there : place ≡ at.Name name.ObjectClass) → ObjectItemBegins k d place
  BeginsAttribute : (keyword : k ≡ word.Attribute) (there : place ≡ at.Name name.Attribute) → ObjectItemBegins k d place
  BeginsLevel : (keyword : k ≡ word.SecLevel) (there : place ≡ at.Ignored within.ObjectClass d) → ObjectItemBegins k d place

object_item_begun : (k : Keyword) (d : ℕ) (place : Place) → place_behind_keyword head.ObjectItem d (Some k) ≡ Some place → ObjectItemBegins k d place
object_item_begun word.Class d place h = BeginsClass refl cc
object_item_begun word.Attribute d place h = BeginsAttribute refl cc
object_item_begun word.SecLevel d place h = BeginsLevel refl cc
object_item_begun k d place h = cc

-- what was read in an object class, up to the parenthesis that closes it
pub record ObjectBody (d : ℕ) (l : List ℕ) (c : CatalogueValue) (ts : List Lexed) (final : CatalogueValue) : Type 0 where
  pub items : ObjectItems
  pub fit : object_items_fit d l items c
  pub after : Reader
  pub closing : after_close (reader (at.Between lists.ObjectItems) d l (object_items_declare l items c)) ≡ Ok after
  pub tail : Tail (λ ss. object_items_then items (RightParen ∷ ss)) ts after final

pub object_body : (n : ℕ) (d : ℕ) (l : List ℕ) (c : CatalogueValue) (ts : List Lexed) (final : CatalogueValue) → length ts ≤ n → 0 < length l → reading (reader (at.Between lists.ObjectItems) d l c) ts ≡ Ok final → ObjectBody d l c ts final
object_body n d l c [] final few some h = absurd (none_left (reader (at.Between lists.ObjectItems) d l c) final refl h)
object_body zero d l c (t ∷ ts) final few some h = absurd (omega arith)
object_body (suc n) d l c (t ∷ []) final few some h =
    let b = back (reader (at.Between lists.ObjectItems) d l c) t [] final refl h in
    elim (between_token t.token lists.ObjectItems d l c b.next b.step) [
      | inl p ↦ absurd (none_left (reader (at.Head head.ObjectItem) (d + 1) l c) final refl (at_next _ _ [] final p.2 b.read))
      | inr p ↦ record { items = NoItem; fit = tt; after = b.next; closing = p.1; tail = record { rest = []; fewer = omega arith; spelled = λ ss sp. (p.0, sp); read = b.read } }
    ]
object_body (suc n) d l c (t ∷ k ∷ ts) final few some h =
    let b = back (reader (at.Between lists.ObjectItems) d l c) t (k ∷ ts) final refl h in
    elim (between_token t.token lists.ObjectItems d l c b.next b.step) [
      | inr p ↦ record { items = NoItem; fit = tt; after = b.next; closing = p.1; tail = record { rest = k ∷ ts; fewer = omega arith; spelled = λ ss sp. (p.0, sp); read = b.read } }
      | inl p ↦
          let s = reader (at.Between lists.ObjectItems) d l c in
          let w = back (reader_at s (at.Head head.ObjectItem) (d + 1)) k ts final refl (at_next _ _ (k ∷ ts) final p.2 b.read) in
          let q = head_token k.token head.ObjectItem (d + 1) s w.next w.step in
          let short_enough : length ts ≤ n = omega arith in
          elim (object_item_begun q.keyword (d + 1) q.place q.begins) [
            | BeginsClass kw there ↦
                let fits : Fits k.token (Means word.Class) = rw kw at q.fits in
                let at_name : w.next ≡ reader (at.Name name.ObjectClass) (d + 1) l c = q.then ∙ ap (λ (place : Place). reader_at s place (d + 1)) there in
                let a = class_back (d + 1) l c ts final (at_next _ _ ts final at_name w.read) in
                let inner = (length c.object_classes + 1) ∷ l in
                let opened = with_object_class l a.name c in
                let fewer : length a.tail.rest ≤ n = omega (arith, a.tail.fewer) in
                let body = object_body n (d + 1) inner opened a.tail.rest final fewer (omega arith) a.tail.read in
                let declared = object_items_declare inner body.items opened in
                let behind : body.after ≡ reader (at.Between lists.ObjectItems) d l declared = ok_same _ _ _ body.closing (class_closes d (length c.object_classes + 1) l declared some) in
                let fewer2 : length body.tail.rest ≤ n = omega (arith, a.tail.fewer, body.tail.fewer) in
                let others = object_body n d l declared body.tail.rest final fewer2 some (at_next _ _ body.tail.rest final behind body.tail.read) in
                let less : length others.tail.rest ≤ length (t ∷ k ∷ ts) = omega (arith, a.tail.fewer, body.tail.fewer, others.tail.fewer) in
                record {
                  items = AClass a.name body.items others.items;
                  fit = (p.1, a.short, a.room, body.fit, others.fit);
                  after = others.after;
                  closing = others.closing;
                  tail = record { rest = others.tail.rest; fewer = less; spelled = λ ss sp. (p.0, (fits, a.tail.spelled _ (body.tail.spelled _ (others.tail.spelled ss sp)))); read = others.tail.read };
                }
            | BeginsAttribute kw there ↦
                let fits : Fits k.token (Means word.Attribute) = rw kw at q.fits in
                let at_name : w.next ≡ reader (at.Name name.Attribute) (d + 1) l c = q.then ∙ ap (λ (place : Place). reader_at s place (d + 1)) there in
                let a = attribute_back d l c ts final (at_next _ _ ts final at_name w.read) in
                let declared = with_attribute l a.name (transport_of a.options) (order_of a.options) c in
                let fewer : length a.tail.rest ≤ n = omega (arith, a.tail.fewer) in
                let others = object_body n d l declared a.tail.rest final fewer some a.tail.read in
                let less : length others.tail.rest ≤ length (t ∷ k ∷ ts) = omega (arith, a.tail.fewer, others.tail.fewer) in
                record {
                  items = AnAttribute a.name a.options a.levels others.items;
                  fit = (p.1, a.short, a.room, a.fit, others.fit);
                  after = others.after;
                  closing = others.closing;
                  tail = record { rest = others.tail.rest; fewer = less; spelled = λ ss sp. (p.0, (fits, a.tail.spelled _ (others.tail.spelled ss sp))); read = others.tail.read };
                }
            | BeginsLevel kw there ↦
                let fits : Fits k.token (Means word.SecLevel) = rw kw at q.fits in
                let in_list : w.next ≡ ignoring_reader s within.ObjectClass (d + 1) (d + 1) = q.then ∙ ap (λ (place : Place). reader_at s place (d + 1)) there in
                let a = list_back s within.ObjectClass d ts final (at_next _ _ ts final in_list w.read) in
                let fewer : length a.tail.rest ≤ n = omega (arith, a.tail.fewer) in
                let others = object_body n d l c a.tail.rest final fewer some a.tail.read in
                let less : length others.tail.rest ≤ length (t ∷ k ∷ ts) = omega (arith, a.tail.fewer, others.tail.fewer) in
                record {
                  items = ASecLevel a.ignored others.items;
                  fit = (p.1, a.fit, others.fit);
                  after = others.after;
                  closing = others.closing;
                  tail = record { rest = others.tail.rest; fewer = less; spelled = λ ss sp. (p.0, (fits, a.tail.spelled _ (others.tail.spelled ss sp))); read = others.tail.read };
                }
          ]
    ]

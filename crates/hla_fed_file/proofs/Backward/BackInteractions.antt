-- What is read is in the grammar: parameters and interaction classes.
use Rattle.hla_base.specs.Limits.{max_parameters, max_classes}
use Rattle.std.proofs.Common.{◌≡◌, ℕ, ◌+◌, ◌<◌, ◌≤◌, Bool, true, false, List, [], ◌∷◌, ◌++◌, length, Option, None, Some, Ok, Err, nat_le, cond, refl, sym, ap, ◌∙◌, arith, ◌⊎◌, inl, inr, zero, suc}
use Rattle.std.proofs.lemmas.Bool.Decides.{nat_tests}
use Rattle.hla_fed_file.specs.Lexical as text
use Rattle.hla_fed_file.specs.Lexical.{Lexed, tokens}
use Rattle.hla_fed_file.specs.Keywords.{keyword_of}
use Rattle.hla_catalogue.specs.CatalogueValue.{CatalogueValue}
use Rattle.hla_catalogue.specs.Declaring.{innermost, with_interaction_class, with_parameter, has_parameter_named}
use Rattle.hla_fed_file.specs.Reading.{reading, after_token, after_open, after_close, after_word, after_quoted, after_name_at, place_behind_keyword, class_option, Step}
use Rattle.hla_fed_file.specs.Grammar.{Symbol, LeftParen, RightParen, Means, Named, AnyName, Fits, Options, Bare, Ordered, SecLevels, NoLevel, ALevel, InteractionItems, NoEntry, AParameter, ALevelList, ASubclass, space_then, options_then, levels_then, interaction_items_then, transport_of, order_of, interaction_items_declare, IsShort, levels_fit, ParameterFits, interaction_items_fit}
use Rattle.hla_catalogue.specs.declared.declared.InteractionClass.{InteractionClass}
use Rattle.hla_catalogue.specs.declared.declared.Order.{Order}
use Rattle.hla_catalogue.specs.declared.declared.Transport.{Transport}
use Rattle.hla_fed_file.specs.declared.fault.FedFaultKind.TheVariants as kind
use Rattle.hla_fed_file.specs.declared.place.Keyword.{Keyword}
use Rattle.hla_fed_file.specs.declared.place.Keyword.TheVariants as word
use Rattle.hla_fed_file.specs.declared.place.Head.TheVariants as head
use Rattle.hla_fed_file.specs.declared.place.NameOf.TheVariants as name
use Rattle.hla_fed_file.specs.declared.place.Lists.TheVariants as lists
use Rattle.hla_fed_file.specs.declared.place.OptionStage.{OptionStage}
use Rattle.hla_fed_file.specs.declared.place.OptionStage.TheVariants as stage
use Rattle.hla_fed_file.specs.declared.place.Within.TheVariants as within
use Rattle.hla_fed_file.specs.declared.place.Place.{Place}
use Rattle.hla_fed_file.specs.declared.place.Place.TheVariants as at
use Rattle.hla_fed_file.specs.declared.reader.Reader.{Reader}
use Rattle.hla_fed_file.proofs.Forward.ReadSteps.{alike, fits_left, fits_right, ignoring_reader, reader_at, pending, reader}
use Rattle.hla_fed_file.proofs.Forward.ReadInteractions.{Waits, amended_class, behind_closes, behind_opens, class_amended, class_carried, first_of_class, inside, interaction_closes, parameter_closes}
use Rattle.hla_fed_file.proofs.Backward.BackSteps.{Tail, at_next, back, between_token, head_token, kept_limit, list_back, name_token, none_left, ok_same, parameter_level_begun, was_named, paren_opened_step}
use Rattle.hla_fed_file.proofs.Backward.BackObjects.{Carries, OptionNext, Orders, Paren}

-- Parameters.
parameter_end_token : (token : text.Token) (d : ℕ) (l : List ℕ) (c : CatalogueValue) (next : Reader) → after_token (reader at.ParameterEnd d l c) token ≡ Ok next
    → (Fits token LeftParen × (d < 64) × (next ≡ reader (at.Head head.ParameterItem) (d + 1) l c)) ⊎ (Fits token RightParen × (after_close (reader at.ParameterEnd d l c) ≡ Ok next))
unfolding after_open after_word after_quoted
parameter_end_token text.Open d l c next ok = let p = paren_opened_step (at.Head head.ParameterItem) (reader at.ParameterEnd d l c) next ok in inl (tt, p.0, p.1)
parameter_end_token text.Close d l c next ok = inr (tt, ok)
parameter_end_token (text.Word w) d l c next ok = cc
parameter_end_token (text.Quoted w) d l c next ok = cc
parameter_end_token text.Bad d l c next ok = cc
parameter_end_token text.Unclosed d l c next ok = cc
parameter_end_token text.End d l c next ok = cc

record ParameterLevelsRead (d : ℕ) (l : List ℕ) (c : CatalogueValue) (ts : List Lexed) (final : CatalogueValue) : Type 0 where
  levels : SecLevels
  fit : levels_fit (d + 1) levels
  tail : Tail (λ ss. levels_then levels (RightParen ∷ ss)) ts (reader (at.Between lists.InteractionItems) d l c) final

parameter_levels : (n : ℕ) (d : ℕ) (l : List ℕ) (c : CatalogueValue) (ts : List Lexed) (final : CatalogueValue) → length ts ≤ n → reading (reader at.ParameterEnd (d + 1) l c) ts ≡ Ok final → ParameterLevelsRead d l c ts final
parameter_levels n d l c [] final few h = absurd (none_left (reader at.ParameterEnd (d + 1) l c) final refl h)
parameter_levels zero d l c (t ∷ ts) final few h = absurd (omega arith)
parameter_levels (suc n) d l c (t ∷ []) final few h =
    let b = back (reader at.ParameterEnd (d + 1) l c) t [] final refl h in
    elim (parameter_end_token t.token (d + 1) l c b.next b.step) [
      | inl p ↦ absurd (none_left (reader (at.Head head.ParameterItem) (d + 1 + 1) l c) final refl (at_next _ _ [] final p.2 b.read))
      | inr p ↦
          let behind : b.next ≡ reader (at.Between lists.InteractionItems) d l c = ok_same _ _ _ p.1 (parameter_closes d l c) in
          record { levels = NoLevel; fit = tt; tail = record { rest = []; fewer = omega arith; spelled = λ ss sp. (p.0, sp); read = at_next _ _ [] final behind b.read } }
    ]
parameter_levels (suc n) d l c (t ∷ k ∷ ts) final few h =
    let b = back (reader at.ParameterEnd (d + 1) l c) t (k ∷ ts) final refl h in
    elim (parameter_end_token t.token (d + 1) l c b.next b.step) [
      | inr p ↦
          let behind : b.next ≡ reader (at.Between lists.InteractionItems) d l c = ok_same _ _ _ p.1 (parameter_closes d l c) in
          record { levels = NoLevel; fit = tt; tail = record { rest = k ∷ ts; fewer = omega arith; spelled = λ ss sp. (p.0, sp); read = at_next _ _ (k ∷ ts) final behind b.read } }
      | inl p ↦
          let s = reader at.ParameterEnd (d + 1) l c in
          let w = back (reader_at s (at.Head head.ParameterItem) (d + 1 + 1)) k ts final refl (at_next _ _ (k ∷ ts) final p.2 b.read) in
          let q = head_token k.token head.ParameterItem (d + 1 + 1) s w.next w.step in
          let z = parameter_level_begun q.keyword (d + 1 + 1) q.place q.begins in
          let fits : Fits k.token (Means word.SecLevel) = rw z.0 at q.fits in
          let there : w.next ≡ ignoring_reader s within.Parameter (d + 1 + 1) (d + 1 + 1) = q.then ∙ ap (λ (place : Place). reader_at s place (d + 1 + 1)) z.1 in
          let a = list_back s within.Parameter (d + 1) ts final (at_next _ _ ts final there w.read) in
          let fewer : length a.tail.rest ≤ n = omega (arith, a.tail.fewer) in
          let r = parameter_levels n d l c a.tail.rest final fewer a.tail.read in
          let less : length r.tail.rest ≤ length (t ∷ k ∷ ts) = omega (arith, a.tail.fewer, r.tail.fewer) in
          record {
            levels = ALevel a.ignored r.levels;
            fit = (p.1, a.fit, r.fit);
            tail = record { rest = r.tail.rest; fewer = less; spelled = λ ss sp. (p.0, (fits, a.tail.spelled _ (r.tail.spelled ss sp))); read = r.tail.read };
          }
    ]

record ParameterRead (d : ℕ) (l : List ℕ) (c : CatalogueValue) (ts : List Lexed) (final : CatalogueValue) : Type 0 where
  name : List ℕ
  levels : SecLevels
  short : IsShort name
  room : ParameterFits l name c
  fit : levels_fit (d + 1) levels
  tail : Tail (λ ss. Named name ∷ levels_then levels (RightParen ∷ ss)) ts (reader (at.Between lists.InteractionItems) d l (with_parameter l name c)) final

parameter_name_read : (n : List ℕ) (d : ℕ) (l : List ℕ) (c : CatalogueValue) (next : Reader) → after_name_at name.Parameter (reader (at.Name name.Parameter) d l c) n ≡ Ok next
    → ParameterFits l n c × (next ≡ reader at.ParameterEnd d l (with_parameter l n c))
parameter_name_read n d l c next ok =
    let more = record c { parameters = c.parameters ++ record { class = innermost l; name = n } ∷ [] } in
    once (has_parameter_named c l n) (nat_le max_parameters (length c.parameters)) more refl ok
  where
    once : (b e : Bool) (more : CatalogueValue) → nat_le max_parameters (length c.parameters) ≡ e → cond {A = Step} b (Ok (reader at.ParameterEnd d l c)) (cond {A = Step} e (Err kind.TooLarge) (Ok (reader at.ParameterEnd d l (cond b c more)))) ≡ Ok next
        → (b ≡ false → length c.parameters < max_parameters) × (next ≡ reader at.ParameterEnd d l (cond b c more))
    once true e more g ok = ((λ bad. cc), cc)
    once false true more g ok = cc
    once false false more g ok = let less : length c.parameters < max_parameters = grind (arith, nat_tests) in ((λ _. less), cc)

parameter_back : (d : ℕ) (l : List ℕ) (c : CatalogueValue) (ts : List Lexed) (final : CatalogueValue) → reading (reader (at.Name name.Parameter) (d + 1) l c) ts ≡ Ok final → ParameterRead d l c ts final
parameter_back d l c [] final h = absurd (none_left (reader (at.Name name.Parameter) (d + 1) l c) final refl h)
parameter_back d l c (t ∷ ts) final h =
    let b = back (reader (at.Name name.Parameter) (d + 1) l c) t ts final refl h in
    let n = name_token t.token name.Parameter (d + 1) l c b.next b.step in
    let s = was_named name.Parameter (reader (at.Name name.Parameter) (d + 1) l c) b.next n.name n.named in
    let k = parameter_name_read n.name (d + 1) l c b.next s.1 in
    let r = parameter_levels (length ts) d l (with_parameter l n.name c) ts final (omega arith) (at_next _ _ ts final k.1 b.read) in
    let less : length r.tail.rest ≤ length (t ∷ ts) = omega (arith, r.tail.fewer) in
    record { name = n.name; levels = r.levels; short = s.0; room = k.0; fit = r.fit; tail = record { rest = r.tail.rest; fewer = less; spelled = λ ss sp. (n.fits, r.tail.spelled ss sp); read = r.tail.read } }

-- Interaction classes.

-- what options leave: reading goes on in the class
record ClassOptionsRead (before : Options → List Symbol → List Symbol) (d : ℕ) (l : List ℕ) (k : InteractionClass) (c : CatalogueValue) (ts : List Lexed) (final : CatalogueValue) : Type 0 where
  options : Options
  tail : Tail (before options) ts (inside d (class_amended options k) c) final

abbrev pending_carried : ℕ → List ℕ → InteractionClass → CatalogueValue → Transport → Reader
pending_carried d l k c t = pending (at.ClassOptions stage.Carried) d l (class_carried (Some t) k) c

abbrev pending_ordered : ℕ → List ℕ → InteractionClass → CatalogueValue → Order → Reader
pending_ordered d l k c o = pending (at.ClassOptions stage.Ordered) d l (record k { order = o }) c

class_named_word : (w : List ℕ) (kw : Option Keyword) (d : ℕ) (l : List ℕ) (k : InteractionClass) (c : CatalogueValue) (next : Reader) → keyword_of w ≡ kw
    → class_option stage.Named kw (pending (at.ClassOptions stage.Named) d l k c) ≡ Ok next → OptionNext (text.Word w) next (pending_carried d l k c) (pending_ordered d l k c)
class_named_word w (Some (word.Carried t)) d l k c next e ok = Carries t e cc
class_named_word w (Some (word.Ordered o)) d l k c next e ok = Orders o e cc
class_named_word w kw d l k c next e ok = cc

class_named_token : (token : text.Token) (d : ℕ) (l : List ℕ) (k : InteractionClass) (c : CatalogueValue) (next : Reader) → after_token (pending (at.ClassOptions stage.Named) d l k c) token ≡ Ok next
    → OptionNext token next (pending_carried d l k c) (pending_ordered d l k c)
unfolding after_word after_quoted
class_named_token text.Open d l k c next ok = Paren (inl tt)
class_named_token text.Close d l k c next ok = Paren (inr tt)
class_named_token (text.Word w) d l k c next ok = class_named_word w (keyword_of w) d l k c next refl ok
class_named_token (text.Quoted w) d l k c next ok = cc
class_named_token text.Bad d l k c next ok = cc
class_named_token text.Unclosed d l k c next ok = cc
class_named_token text.End d l k c next ok = cc

class_carried_token : (token : text.Token) (d : ℕ) (l : List ℕ) (k : InteractionClass) (c : CatalogueValue) (next : Reader) → after_token (pending (at.ClassOptions stage.Carried) d l k c) token ≡ Ok next
    → (Fits token LeftParen ⊎ Fits token RightParen) ⊎ ((o : Order) × Fits token (Means (word.Ordered o)) × (next ≡ pending_ordered d l k c o))
unfolding after_word after_quoted
class_carried_token text.Open d l k c next ok = inl (inl tt)
class_carried_token text.Close d l k c next ok = inl (inr tt)
class_carried_token (text.Word w) d l k c next ok = only_order w (keyword_of w) refl ok
  where
    only_order : (w : List ℕ) (kw : Option Keyword) → keyword_of w ≡ kw → class_option stage.Carried kw (pending (at.ClassOptions stage.Carried) d l k c) ≡ Ok next
        → (Fits (text.Word w) LeftParen ⊎ Fits (text.Word w) RightParen) ⊎ ((o : Order) × Fits (text.Word w) (Means (word.Ordered o)) × (next ≡ pending_ordered d l k c o))
    only_order w (Some (word.Ordered o)) e ok = inr (o, e, cc)
    only_order w kw e ok = cc
class_carried_token (text.Quoted w) d l k c next ok = cc
class_carried_token text.Bad d l k c next ok = cc
class_carried_token text.Unclosed d l k c next ok = cc
class_carried_token text.End d l k c next ok = cc

class_ordered_token : (token : text.Token) (d : ℕ) (l : List ℕ) (k : InteractionClass) (c : CatalogueValue) (next : Reader) → after_token (pending (at.ClassOptions stage.Ordered) d l k c) token ≡ Ok next
    → (Fits token LeftParen ⊎ Fits token RightParen) ⊎ (Fits token AnyName × (next ≡ inside d k c))
unfolding after_word after_quoted
class_ordered_token text.Open d l k c next ok = inl (inl tt)
class_ordered_token text.Close d l k c next ok = inl (inr tt)
class_ordered_token (text.Word w) d l k c next ok = inr (tt, cc)
class_ordered_token (text.Quoted w) d l k c next ok = inr (tt, cc)
class_ordered_token text.Bad d l k c next ok = cc
class_ordered_token text.Unclosed d l k c next ok = cc
class_ordered_token text.End d l k c next ok = cc

-- where a parenthesis is next, the class counts as declared
behind_paren : (o : OptionStage) (d : ℕ) (l : List ℕ) (k : InteractionClass) (c : CatalogueValue) (t : Lexed) (ts : List Lexed) (final : CatalogueValue) → Fits t.token LeftParen ⊎ Fits t.token RightParen
    → reading (pending (at.ClassOptions o) d l k c) (t ∷ ts) ≡ Ok final → reading (inside d k c) (t ∷ ts) ≡ Ok final
behind_paren o d l k c t ts final (inl left) h =
    let f = fits_left t.token (pending (at.ClassOptions o) d l k c) left in
    let g = fits_left t.token (inside d k c) left in
    sym (alike _ _ t ts f.0 (f.1 ∙ behind_opens k d l c _ (Waits o) ∙ sym g.1)) ∙ h
behind_paren o d l k c t ts final (inr right) h =
    let f = fits_right t.token (pending (at.ClassOptions o) d l k c) right in
    let g = fits_right t.token (inside d k c) right in
    sym (alike _ _ t ts f.0 (f.1 ∙ behind_closes k d l c _ (Waits o) ∙ sym g.1)) ∙ h

record ClassSpaceRead (d : ℕ) (l : List ℕ) (k : InteractionClass) (c : CatalogueValue) (ts : List Lexed) (final : CatalogueValue) : Type 0 where
  space : Bool
  tail : Tail (space_then space) ts (inside d k c) final

class_space_back : (d : ℕ) (l : List ℕ) (k : InteractionClass) (c : CatalogueValue) (ts : List Lexed) (final : CatalogueValue) → reading (pending (at.ClassOptions stage.Ordered) d l k c) ts ≡ Ok final → ClassSpaceRead d l k c ts final
class_space_back d l k c [] final h = absurd (none_left (pending (at.ClassOptions stage.Ordered) d l k c) final refl h)
class_space_back d l k c (t ∷ ts) final h =
    let b = back (pending (at.ClassOptions stage.Ordered) d l k c) t ts final refl h in
    elim (class_ordered_token t.token d l k c b.next b.step) [
      | inl paren ↦ record { space = false; tail = record { rest = t ∷ ts; fewer = omega arith; spelled = λ ss sp. sp; read = behind_paren stage.Ordered d l k c t ts final paren h } }
      | inr p ↦ record { space = true; tail = record { rest = ts; fewer = omega arith; spelled = λ ss sp. (p.0, sp); read = at_next _ _ ts final p.1 b.read } }
    ]

class_carried_back : (t : Transport) (d : ℕ) (l : List ℕ) (k : InteractionClass) (c : CatalogueValue) (u : Lexed) (ts : List Lexed) (final : CatalogueValue) → Fits u.token (Means (word.Carried t))
    → reading (pending_carried d l k c t) ts ≡ Ok final → ClassOptionsRead options_then d l k c (u ∷ ts) final
class_carried_back t d l k c u [] final fits h = absurd (none_left (pending_carried d l k c t) final refl h)
class_carried_back t d l k c u (v ∷ ts) final fits h =
    let b = back (pending_carried d l k c t) v ts final refl h in
    elim (class_carried_token v.token d l (class_carried (Some t) k) c b.next b.step) [
      | inl paren ↦ record { options = Bare (Some t); tail = record { rest = v ∷ ts; fewer = omega arith; spelled = λ ss sp. (fits, sp); read = behind_paren stage.Carried d l (class_carried (Some t) k) c v ts final paren h } }
      | inr p ↦
          let r = class_space_back d l (record (class_carried (Some t) k) { order = p.0 }) c ts final (at_next _ _ ts final p.2 b.read) in
          let less : length r.tail.rest ≤ length (u ∷ v ∷ ts) = omega (arith, r.tail.fewer) in
          record { options = Ordered (Some t) p.0 r.space; tail = record { rest = r.tail.rest; fewer = less; spelled = λ ss sp. (fits, (p.1, r.tail.spelled ss sp)); read = r.tail.read } }
    ]

class_options_back : (d : ℕ) (l : List ℕ) (k : InteractionClass) (c : CatalogueValue) (ts : List Lexed) (final : CatalogueValue) → reading (pending (at.ClassOptions stage.Named) d l k c) ts ≡ Ok final → ClassOptionsRead options_then d l k c ts final
class_options_back d l k c [] final h = absurd (none_left (pending (at.ClassOptions stage.Named) d l k c) final refl h)
class_options_back d l k c (t ∷ ts) final h =
    let b = back (pending (at.ClassOptions stage.Named) d l k c) t ts final refl h in
    elim (class_named_token t.token d l k c b.next b.step) [
      | Paren paren ↦ record { options = Bare None; tail = record { rest = t ∷ ts; fewer = omega arith; spelled = λ ss sp. sp; read = behind_paren stage.Named d l k c t ts final paren h } }
      | Carries u fits then ↦ class_carried_back u d l k c t ts final fits (at_next _ _ ts final then b.read)
      | Orders o fits then ↦
          let r = class_space_back d l (record k { order = o }) c ts final (at_next _ _ ts final then b.read) in
          let less : length r.tail.rest ≤ length (t ∷ ts) = omega (arith, r.tail.fewer) in
          record { options = Ordered None o r.space; tail = record { rest = r.tail.rest; fewer = less; spelled = λ ss sp. (fits, r.tail.spelled ss sp); read = r.tail.read } }
    ]

pub record SubclassRead (d : ℕ) (l : List ℕ) (c : CatalogueValue) (ts : List Lexed) (final : CatalogueValue) : Type 0 where
  pub name : List ℕ
  pub options : Options
  pub short : IsShort name
  pub room : length c.interaction_classes < max_classes
  pub tail : Tail (λ ss. Named name ∷ options_then options ss) ts (reader (at.Between lists.InteractionItems) d ((length c.interaction_classes + 1) ∷ l) (with_interaction_class l name (transport_of options) (order_of options) c)) final

pub subclass_back : (d : ℕ) (l : List ℕ) (c : CatalogueValue) (ts : List Lexed) (final : CatalogueValue) → reading (reader (at.Name name.InteractionClass) d l c) ts ≡ Ok final → SubclassRead d l c ts final
subclass_back d l c [] final h = absurd (none_left (reader (at.Name name.InteractionClass) d l c) final refl h)
subclass_back d l c (t ∷ ts) final h =
    let b = back (reader (at.Name name.InteractionClass) d l c) t ts final refl h in
    let n = name_token t.token name.InteractionClass d l c b.next b.step in
    let s = was_named name.InteractionClass (reader (at.Name name.InteractionClass) d l c) b.next n.name n.named in
    let first = first_of_class c l n.name in
    let k = kept_limit (nat_le max_classes (length c.interaction_classes)) max_classes (length c.interaction_classes) (pending (at.ClassOptions stage.Named) d l first c) b.next refl s.1 in
    let o = class_options_back d l first c ts final (at_next _ _ ts final k.1 b.read) in
    let less : length o.tail.rest ≤ length (t ∷ ts) = omega (arith, o.tail.fewer) in
    record {
      name = n.name;
      options = o.options;
      short = s.0;
      room = k.0;
      tail = record { rest = o.tail.rest; fewer = less; spelled = λ ss sp. (n.fits, o.tail.spelled ss sp); read = at_next _ _ o.tail.rest final (ap (λ (k : InteractionClass). inside d k c) (amended_class o.options l n.name c)) o.tail.read };
    }

data InteractionItemBegins (k : Keyword) (d : ℕ) (place : Place) : Type 0 where
  BeginsSubclass : (keyword : k ≡ word.Class) (there : place ≡ at.Name name.InteractionClass) → InteractionItemBegins k d place
  BeginsParameter : (keyword : k ≡ word.Parameter) (there : place ≡ at.Name name.Parameter) → InteractionItemBegins k d place
  BeginsLevels : (keyword : k ≡ word.SecLevel) (there : place ≡ at.Ignored within.InteractionClass d) → InteractionItemBegins k d place

interaction_item_begun : (k : Keyword) (d : ℕ) (place : Place) → place_behind_keyword head.InteractionItem d (Some k) ≡ Some place → InteractionItemBegins k d place
interaction_item_begun word.Class d place h = BeginsSubclass refl cc
interaction_item_begun word.Parameter d place h = BeginsParameter refl cc
interaction_item_begun word.SecLevel d place h = BeginsLevels refl cc
interaction_item_begun k d place h = cc

-- what was read in an interaction class, up to the parenthesis that closes it
pub record InteractionBody (d : ℕ) (l : List ℕ) (c : CatalogueValue) (ts : List Lexed) (final : CatalogueValue) : Type 0 where
  pub items : InteractionItems
  pub fit : interaction_items_fit d l items c
  pub after : Reader
  pub closing : after_close (reader (at.Between lists.InteractionItems) d l (interaction_items_declare l items c)) ≡ Ok after
  pub tail : Tail (λ ss. interaction_items_then items (RightParen ∷ ss)) ts after final

pub interaction_body : (n : ℕ) (d : ℕ) (l : List ℕ) (c : CatalogueValue) (ts : List Lexed) (final : CatalogueValue) → length ts ≤ n → 0 < length l → reading (reader (at.Between lists.InteractionItems) d l c) ts ≡ Ok final → InteractionBody d l c ts final
interaction_body n d l c [] final few some h = absurd (none_left (reader (at.Between lists.InteractionItems) d l c) final refl h)
interaction_body zero d l c (t ∷ ts) final few some h = absurd (omega arith)
interaction_body (suc n) d l c (t ∷ []) final few some h =
    let b = back (reader (at.Between lists.InteractionItems) d l c) t [] final refl h in
    elim (between_token t.token lists.InteractionItems d l c b.next b.step) [
      | inl p ↦ absurd (none_left (reader (at.Head head.InteractionItem) (d + 1) l c) final refl (at_next _ _ [] final p.2 b.read))
      | inr p ↦ record { items = NoEntry; fit = tt; after = b.next; closing = p.1; tail = record { rest = []; fewer = omega arith; spelled = λ ss sp. (p.0, sp); read = b.read } }
    ]
interaction_body (suc n) d l c (t ∷ k ∷ ts) final few some h =
    let b = back (reader (at.Between lists.InteractionItems) d l c) t (k ∷ ts) final refl h in
    elim (between_token t.token lists.InteractionItems d l c b.next b.step) [
      | inr p ↦ record { items = NoEntry; fit = tt; after = b.next; closing = p.1; tail = record { rest = k ∷ ts; fewer = omega arith; spelled = λ ss sp. (p.0, sp); read = b.read } }
      | inl p ↦
          let s = reader (at.Between lists.InteractionItems) d l c in
          let w = back (reader_at s (at.Head head.InteractionItem) (d + 1)) k ts final refl (at_next _ _ (k ∷ ts) final p.2 b.read) in
          let q = head_token k.token head.InteractionItem (d + 1) s w.next w.step in
          let short_enough : length ts ≤ n = omega arith in
          elim (interaction_item_begun q.keyword (d + 1) q.place q.begins) [
            | BeginsSubclass kw there ↦
                let fits : Fits k.token (Means word.Class) = rw kw at q.fits in
                let at_name : w.next ≡ reader (at.Name name.InteractionClass) (d + 1) l c = q.then ∙ ap (λ (place : Place). reader_at s place (d + 1)) there in
                let a = subclass_back (d + 1) l c ts final (at_next _ _ ts final at_name w.read) in
                let inner = (length c.interaction_classes + 1) ∷ l in
                let opened = with_interaction_class l a.name (transport_of a.options) (order_of a.options) c in
                let fewer : length a.tail.rest ≤ n = omega (arith, a.tail.fewer) in
                let body = interaction_body n (d + 1) inner opened a.tail.rest final fewer (omega arith) a.tail.read in
                let declared = interaction_items_declare inner body.items opened in
                let behind : body.after ≡ reader (at.Between lists.InteractionItems) d l declared = ok_same _ _ _ body.closing (interaction_closes d (length c.interaction_classes + 1) l declared some) in
                let fewer2 : length body.tail.rest ≤ n = omega (arith, a.tail.fewer, body.tail.fewer) in
                let others = interaction_body n d l declared body.tail.rest final fewer2 some (at_next _ _ body.tail.rest final behind body.tail.read) in
                let less : length others.tail.rest ≤ length (t ∷ k ∷ ts) = omega (arith, a.tail.fewer, body.tail.fewer, others.tail.fewer) in
                record {
                  items = ASubclass a.name a.options body.items others.items;
                  fit = (p.1, a.short, a.room, body.fit, others.fit);
                  after = others.after;
                  closing = others.closing;
                  tail = record { rest = others.tail.rest; fewer = less; spelled = λ ss sp. (p.0, (fits, a.tail.spelled _ (body.tail.spelled _ (others.tail.spelled ss sp)))); read = others.tail.read };
                }
            | BeginsParameter kw there ↦
                let fits : Fits k.token (Means word.Parameter) = rw kw at q.fits in
                let at_name : w.next ≡ reader (at.Name name.Parameter) (d + 1) l c = q.then ∙ ap (λ (place : Place). reader_at s place (d + 1)) there in
                let a = parameter_back d l c ts final (at_next _ _ ts final at_name w.read) in
                let declared = with_parameter l a.name c in
                let fewer : length a.tail.rest ≤ n = omega (arith, a.tail.fewer) in
                let others = interaction_body n d l declared a.tail.rest final fewer some a.tail.read in
                let less : length others.tail.rest ≤ length (t ∷ k ∷ ts) = omega (arith, a.tail.fewer, others.tail.fewer) in
                record {
                  items = AParameter a.name a.levels others.items;
                  fit = (p.1, a.short, a.room, a.fit, others.fit);
                  after = others.after;
                  closing = others.closing;
                  tail = record { rest = others.tail.rest; fewer = less; spelled = λ ss sp. (p.0, (fits, a.tail.spelled _ (others.tail.spelled ss sp))); read = others.tail.read };
                }
            | BeginsLevels kw there ↦
                let fits : Fits k.token (Means word.SecLevel) = rw kw at q.fits in
                let in_list : w.next ≡ ignoring_reader s within.InteractionClass (d + 1) (d + 1) = q.then ∙ ap (λ (place : Place). reader_at s place (d + 1)) there in
                let a = list_back s within.InteractionClass d ts final (at_next _ _ ts final in_list w.read) in
                let fewer : length a.tail.rest ≤ n = omega (arith, a.tail.fewer) in
                let others = interaction_body n d l c a.tail.rest final fewer some a.tail.read in
                let less : length others.tail.rest ≤ length (t ∷ k ∷ ts) = omega (arith, a.tail.fewer, others.tail.fewer) in
                record {
                  items = ALevelList a.ignored others.items;
                  fit = (p.1, a.fit, others.fit);
                  after = others.after;
                  closing = others.closing;
                  tail = record { rest = others.tail.rest; fewer = less; spelled = λ ss sp. (p.0, (fits, a.tail.spelled _ (others.tail.spelled ss sp))); read = others.tail.read };
                }
          ]
    ]

-- What is in the grammar is read: attributes and object classes.
use Rattle.hla_base.specs.Limits.{max_attributes, max_classes}
use Rattle.std.proofs.Common.{◌≡◌, ℕ, ◌+◌, ◌<◌, ◌==◌, Bool, true, false, List, [], ◌∷◌, ◌++◌, length, Option, None, Some, Ok, Err, nat_le, cond, refl, ap, ◌∙◌, arith}
use Rattle.std.specs.Option.{option_map}
use Rattle.hla_fed_file.specs.Lexical.{Lexed}
use Rattle.hla_catalogue.specs.CatalogueValue.{CatalogueValue}
use Rattle.hla_catalogue.specs.Declaring.{innermost, with_object_class, with_attribute, has_attribute_named}
use Rattle.hla_fed_file.specs.Reading.{reading, after_open, after_open_at, after_close, after_close_at, after_word, after_quoted, after_name_at, place_behind_keyword, with_paren_opened, with_paren_closed, with_attribute_declared, head_in, Step}
use Rattle.hla_fed_file.specs.Grammar.{Symbol, LeftParen, RightParen, Means, Named, Spells, Options, Bare, Ordered, SecLevels, NoLevel, ALevel, ObjectItems, NoItem, AnAttribute, ASecLevel, AClass, ObjectClasses, NoClass, TopClass, transport_then, space_then, options_then, levels_then, object_items_then, object_classes_then, transport_of, order_of, object_items_declare, object_classes_declare, IsShort, levels_fit, AttributeFits, object_items_fit, object_classes_fit}
use Rattle.hla_catalogue.specs.declared.declared.Attribute.{Attribute}
use Rattle.hla_catalogue.specs.declared.declared.Order.{Order}
use Rattle.hla_catalogue.specs.declared.declared.Order.TheVariants as order
use Rattle.hla_catalogue.specs.declared.declared.Transport.{Transport}
use Rattle.hla_catalogue.specs.declared.declared.Transport.TheVariants as transport
use Rattle.hla_fed_file.specs.declared.fault.FedFaultKind.TheVariants as kind
use Rattle.hla_fed_file.specs.declared.place.Keyword.{Keyword}
use Rattle.hla_fed_file.specs.declared.place.Keyword.TheVariants as word
use Rattle.hla_fed_file.specs.declared.place.Head.TheVariants as head
use Rattle.hla_fed_file.specs.declared.place.NameOf.TheVariants as name
use Rattle.hla_fed_file.specs.declared.place.Lists.{Lists}
use Rattle.hla_fed_file.specs.declared.place.Lists.TheVariants as lists
use Rattle.hla_fed_file.specs.declared.place.OptionStage.{OptionStage}
use Rattle.hla_fed_file.specs.declared.place.OptionStage.TheVariants as stage
use Rattle.hla_fed_file.specs.declared.place.Within.TheVariants as within
use Rattle.hla_fed_file.specs.declared.place.Place.{Place}
use Rattle.hla_fed_file.specs.declared.place.Place.TheVariants as at
use Rattle.hla_fed_file.specs.declared.reader.Reader.{Reader}
use Rattle.hla_fed_file.proofs.Forward.ReadSteps.{ReadsSymbols, above_zero, any_read, below_limit, paren_opened, down, half, keyword_read, left_read, list_read, name_read, reader, right_read}

-- Options.
abbrev pub stage_of : Option Transport → OptionStage
stage_of None = stage.Named
stage_of (Some t) = stage.Carried

abbrev pub with_transport_option : Option Transport → Option Attribute → Option Attribute
with_transport_option None kept = kept
with_transport_option (Some t) kept = option_map {T = Attribute} {U = Attribute} (λ a. record a { transport = t }) kept

abbrev pub with_order_option : Order → Option Attribute → Option Attribute
with_order_option o kept = option_map {T = Attribute} {U = Attribute} (λ a. record a { order = o }) kept

-- an attribute behind its options, and its place
abbrev pub with_options : Options → Option Attribute → Option Attribute
with_options (Bare t) kept = with_transport_option t kept
with_options (Ordered t o space) kept = with_order_option o (with_transport_option t kept)

abbrev pub space_place : Bool → Place
space_place true = at.AttributeEnd
space_place false = at.AttributeOptions stage.Ordered

abbrev pub options_place : Options → Place
options_place (Bare t) = at.AttributeOptions (stage_of t)
options_place (Ordered t o space) = space_place space

transport_read : (t : Option Transport) (d : ℕ) (l : List ℕ) (kept : Option Attribute) (c : CatalogueValue) (ts : List Lexed) (ss : List Symbol) → Spells ts (transport_then t ss)
    → ReadsSymbols (half (at.AttributeOptions stage.Named) d l kept c) (half (at.AttributeOptions (stage_of t)) d l (with_transport_option t kept) c) ts ss
unfolding after_word
transport_read None d l kept c ts ss sp = record { rest = ts; spelled = sp; same = refl }
transport_read (Some t) d l kept c ts ss sp = keyword_read (word.Carried t) _ (half (at.AttributeOptions stage.Carried) d l (with_transport_option (Some t) kept) c) ts ss (λ w h. rw h refl) sp

order_read : (t : Option Transport) (o : Order) (d : ℕ) (l : List ℕ) (kept : Option Attribute) (c : CatalogueValue) (ts : List Lexed) (ss : List Symbol) → Spells ts (Means (word.Ordered o) ∷ ss)
    → ReadsSymbols (half (at.AttributeOptions (stage_of t)) d l kept c) (half (at.AttributeOptions stage.Ordered) d l (with_order_option o kept) c) ts ss
unfolding after_word
order_read None o d l kept c ts ss sp = keyword_read (word.Ordered o) _ (half (at.AttributeOptions stage.Ordered) d l (with_order_option o kept) c) ts ss (λ w h. rw h refl) sp
order_read (Some t) o d l kept c ts ss sp = keyword_read (word.Ordered o) _ (half (at.AttributeOptions stage.Ordered) d l (with_order_option o kept) c) ts ss (λ w h. rw h refl) sp

space_read : (space : Bool) (d : ℕ) (l : List ℕ) (kept : Option Attribute) (c : CatalogueValue) (ts : List Lexed) (ss : List Symbol) → Spells ts (space_then space ss)
    → ReadsSymbols (half (at.AttributeOptions stage.Ordered) d l kept c) (half (space_place space) d l kept c) ts ss
unfolding after_word after_quoted
space_read false d l kept c ts ss sp = record { rest = ts; spelled = sp; same = refl }
space_read true d l kept c ts ss sp = any_read _ (half at.AttributeEnd d l kept c) ts ss (λ w. refl) (λ w. refl) sp

options_read : (o : Options) (d : ℕ) (l : List ℕ) (kept : Option Attribute) (c : CatalogueValue) (ts : List Lexed) (ss : List Symbol) → Spells ts (options_then o ss)
    → ReadsSymbols (half (at.AttributeOptions stage.Named) d l kept c) (half (options_place o) d l (with_options o kept) c) ts ss
options_read (Bare t) d l kept c ts ss sp = transport_read t d l kept c ts ss sp
options_read (Ordered t o space) d l kept c ts ss sp =
    let a = transport_read t d l kept c ts _ sp in
    let b = order_read t o d l (with_transport_option t kept) c a.rest _ a.spelled in
    let e = space_read space d l (with_order_option o (with_transport_option t kept)) c b.rest ss b.spelled in
    record { rest = e.rest; spelled = e.spelled; same = a.same ∙ b.same ∙ e.same }

-- a place in which an attribute may end
pub record EndsAttribute (p : Place) : Type 0 where
  pub opens : (s : Reader) → after_open_at p s ≡ with_paren_opened (at.Head head.AttributeItem) s
  pub closes : (s : Reader) → after_close_at p s ≡ Ok (with_paren_closed (at.Between lists.ObjectItems) (with_attribute_declared s))

pub options_end : (o : Options) → EndsAttribute (options_place o)
options_end (Bare None) = record { opens = λ s. refl; closes = λ s. refl }
options_end (Bare (Some t)) = record { opens = λ s. refl; closes = λ s. refl }
options_end (Ordered t o true) = record { opens = λ s. refl; closes = λ s. refl }
options_end (Ordered t o false) = record { opens = λ s. refl; closes = λ s. refl }

pub end_ends : EndsAttribute at.AttributeEnd
end_ends = record { opens = λ s. refl; closes = λ s. refl }

-- what is declared of an attribute
abbrev pub with_kept : Option Attribute → CatalogueValue → CatalogueValue
with_kept None c = c
with_kept (Some a) c = record c { attributes = c.attributes ++ a ∷ [] }

pub attribute_ends : (p : Place) (d : ℕ) (l : List ℕ) (kept : Option Attribute) (c : CatalogueValue) → EndsAttribute p → after_close (half p (d + 1) l kept c) ≡ Ok (reader (at.Between lists.ObjectItems) d l (with_kept kept c))
unfolding after_close
attribute_ends p d l None c e = e.closes (half p (d + 1) l None c) ∙ ap (λ (n : ℕ). Ok (reader (at.Between lists.ObjectItems) n l c)) (down d)
attribute_ends p d l (Some a) c e = e.closes (half p (d + 1) l (Some a) c) ∙ ap (λ (n : ℕ). Ok (reader (at.Between lists.ObjectItems) n l (with_kept (Some a) c))) (down d)

pub attribute_opens : (p : Place) (d : ℕ) (l : List ℕ) (kept : Option Attribute) (c : CatalogueValue) → EndsAttribute p → d < 64 → after_open (half p d l kept c) ≡ Ok (half (at.Head head.AttributeItem) (d + 1) l kept c)
unfolding after_open
attribute_opens p d l kept c e h = e.opens (half p d l kept c) ∙ paren_opened (at.Head head.AttributeItem) (half p d l kept c) h

-- the security levels of an attribute, and its end
levels_read : (v : SecLevels) (p : Place) (d : ℕ) (l : List ℕ) (kept : Option Attribute) (c : CatalogueValue) (ts : List Lexed) (ss : List Symbol) → EndsAttribute p → levels_fit (d + 1) v → Spells ts (levels_then v (RightParen ∷ ss))
    → ReadsSymbols (half p (d + 1) l kept c) (reader (at.Between lists.ObjectItems) d l (with_kept kept c)) ts ss
levels_read NoLevel p d l kept c ts ss e fit sp = right_read _ _ ts ss (attribute_ends p d l kept c e) sp
levels_read (ALevel inside others) p d l kept c ts ss e fit sp =
    let a = list_read word.SecLevel head.AttributeItem within.Attribute inside p (half p (d + 1) l kept c) (d + 1) ts _ (attribute_opens p (d + 1) l kept c e fit.0) refl fit.1 sp in
    let r = levels_read others at.AttributeEnd d l kept c a.rest ss end_ends fit.2 a.spelled in
    record { rest = r.rest; spelled = r.spelled; same = a.same ∙ r.same }

-- the attribute of a name, unless it is ignored
abbrev pub kept_of : List ℕ → List ℕ → CatalogueValue → Option Attribute
kept_of l n c = cond (has_attribute_named c l n) None (Some (record { class = innermost l; name = n; transport = transport.Reliable; order = order.Receive }))

attribute_kept : (b : Bool) (d : ℕ) (l n : List ℕ) (c : CatalogueValue) → (b ≡ false → length c.attributes < max_attributes)
    → cond {A = Step} b (Ok (half (at.AttributeOptions stage.Named) d l None c)) (cond {A = Step} (nat_le max_attributes (length c.attributes)) (Err kind.TooLarge) (Ok (half (at.AttributeOptions stage.Named) d l (Some (record { class = innermost l; name = n; transport = transport.Reliable; order = order.Receive })) c)))
    ≡ Ok (half (at.AttributeOptions stage.Named) d l (cond b None (Some (record { class = innermost l; name = n; transport = transport.Reliable; order = order.Receive }))) c)
attribute_kept true d l n c room = refl
attribute_kept false d l n c room = let e : nat_le max_attributes (length c.attributes) ≡ false = below_limit _ _ (room refl) in rw e refl

pub kept_declares : (b : Bool) (l n : List ℕ) (o : Options) (c : CatalogueValue)
    → with_kept (with_options o (cond b None (Some (record { class = innermost l; name = n; transport = transport.Reliable; order = order.Receive })))) c
    ≡ cond b c (record c { attributes = c.attributes ++ record { class = innermost l; name = n; transport = transport_of o; order = order_of o } ∷ [] })
kept_declares true l n (Bare None) c = refl
kept_declares true l n (Bare (Some t)) c = refl
kept_declares true l n (Ordered None o space) c = refl
kept_declares true l n (Ordered (Some t) o space) c = refl
kept_declares false l n (Bare None) c = refl
kept_declares false l n (Bare (Some t)) c = refl
kept_declares false l n (Ordered None o space) c = refl
kept_declares false l n (Ordered (Some t) o space) c = refl

-- an item of a class begins
pub item_opens : (d : ℕ) (l : List ℕ) (c : CatalogueValue) (i : Lists) → d < 64 → after_open (reader (at.Between i) d l c) ≡ Ok (reader (at.Head (head_in i)) (d + 1) l c)
unfolding after_open
item_opens d l c i h = paren_opened (at.Head (head_in i)) (reader (at.Between i) d l c) h

-- a parenthesis and a keyword
pub begin_read : (k : Keyword) (i : Lists) (place : Place) (d : ℕ) (l : List ℕ) (c : CatalogueValue) (ts : List Lexed) (ss : List Symbol) → d < 64 → place_behind_keyword (head_in i) (d + 1) (Some k) ≡ Some place
    → Spells ts (LeftParen ∷ Means k ∷ ss) → ReadsSymbols (reader (at.Between i) d l c) (reader place (d + 1) l c) ts ss
unfolding after_word
begin_read k i place d l c ts ss h begins sp =
    let a = left_read _ _ ts _ (item_opens d l c i h) sp in
    let b = keyword_read k (reader (at.Head (head_in i)) (d + 1) l c) (reader place (d + 1) l c) a.rest ss (λ n e. rw (e, begins) refl) a.spelled in
    record { rest = b.rest; spelled = b.spelled; same = a.same ∙ b.same }

attribute_read : (n : List ℕ) (o : Options) (v : SecLevels) (d : ℕ) (l : List ℕ) (c : CatalogueValue) (ts : List Lexed) (ss : List Symbol) → d < 64 → IsShort n → AttributeFits l n c → levels_fit (d + 1) v
    → Spells ts (LeftParen ∷ Means word.Attribute ∷ Named n ∷ options_then o (levels_then v (RightParen ∷ ss))) → ReadsSymbols (reader (at.Between lists.ObjectItems) d l c) (reader (at.Between lists.ObjectItems) d l (with_attribute l n (transport_of o) (order_of o) c)) ts ss
attribute_read n o v d l c ts ss h short room fit sp =
    let a = begin_read word.Attribute lists.ObjectItems (at.Name name.Attribute) d l c ts _ h refl sp in
    let b = name_read name.Attribute n (d + 1) l c (half (at.AttributeOptions stage.Named) (d + 1) l (kept_of l n c) c) a.rest _ short (attribute_kept (has_attribute_named c l n) (d + 1) l n c room) a.spelled in
    let e = options_read o (d + 1) l (kept_of l n c) c b.rest _ b.spelled in
    let r = levels_read v (options_place o) d l (with_options o (kept_of l n c)) c e.rest ss (options_end o) fit e.spelled in
    let declares = kept_declares (has_attribute_named c l n) l n o c in
    record { rest = r.rest; spelled = r.spelled; same = a.same ∙ b.same ∙ e.same ∙ r.same ∙ ap (λ (c' : CatalogueValue). reading (reader (at.Between lists.ObjectItems) d l c') r.rest) declares }

-- the name of an object class
class_named : (n : List ℕ) (d : ℕ) (l : List ℕ) (c : CatalogueValue) → length c.object_classes < max_classes
    → after_name_at name.ObjectClass (reader (at.Name name.ObjectClass) d l c) n ≡ Ok (reader (at.Between lists.ObjectItems) d ((length c.object_classes + 1) ∷ l) (with_object_class l n c))
class_named n d l c h = let e : nat_le max_classes (length c.object_classes) ≡ false = below_limit _ _ h in rw e refl

-- behind a class in a class
pub class_closes : (d n : ℕ) (l : List ℕ) (c : CatalogueValue) → 0 < length l → after_close (reader (at.Between lists.ObjectItems) (d + 1) (n ∷ l) c) ≡ Ok (reader (at.Between lists.ObjectItems) d l c)
unfolding after_close
class_closes d n l c h = let e : (length l == 0) ≡ false = above_zero _ h in rw (e, down d) refl

pub object_items_read : (i : ObjectItems) (d : ℕ) (l : List ℕ) (c : CatalogueValue) (ts : List Lexed) (ss : List Symbol) → 0 < length l → object_items_fit d l i c → Spells ts (object_items_then i ss)
    → ReadsSymbols (reader (at.Between lists.ObjectItems) d l c) (reader (at.Between lists.ObjectItems) d l (object_items_declare l i c)) ts ss
object_items_read NoItem d l c ts ss h fit sp = record { rest = ts; spelled = sp; same = refl }
object_items_read (AnAttribute n options levels others) d l c ts ss h fit sp =
    let a = attribute_read n options levels d l c ts _ fit.0 fit.1 fit.2 fit.3 sp in
    let r = object_items_read others d l (with_attribute l n (transport_of options) (order_of options) c) a.rest ss h fit.4 a.spelled in
    record { rest = r.rest; spelled = r.spelled; same = a.same ∙ r.same }
object_items_read (ASecLevel inside others) d l c ts ss h fit sp =
    let a = list_read word.SecLevel head.ObjectItem within.ObjectClass inside (at.Between lists.ObjectItems) (reader (at.Between lists.ObjectItems) d l c) d ts _ (item_opens d l c lists.ObjectItems fit.0) refl fit.1 sp in
    let r = object_items_read others d l c a.rest ss h fit.2 a.spelled in
    record { rest = r.rest; spelled = r.spelled; same = a.same ∙ r.same }
object_items_read (AClass n body others) d l c ts ss h fit sp =
    let inner = (length c.object_classes + 1) ∷ l in
    let opened = with_object_class l n c in
    let a = begin_read word.Class lists.ObjectItems (at.Name name.ObjectClass) d l c ts _ fit.0 refl sp in
    let b = name_read name.ObjectClass n (d + 1) l c (reader (at.Between lists.ObjectItems) (d + 1) inner opened) a.rest _ fit.1 (class_named n (d + 1) l c fit.2) a.spelled in
    let i = object_items_read body (d + 1) inner opened b.rest _ (omega arith) fit.3 b.spelled in
    let declared = object_items_declare inner body opened in
    let e = right_read _ _ i.rest _ (class_closes d (length c.object_classes + 1) l declared h) i.spelled in
    let r = object_items_read others d l declared e.rest ss h fit.4 e.spelled in
    record { rest = r.rest; spelled = r.spelled; same = a.same ∙ b.same ∙ i.same ∙ e.same ∙ r.same }

pub object_classes_read : (k : ObjectClasses) (c : CatalogueValue) (ts : List Lexed) (ss : List Symbol) → object_classes_fit k c → Spells ts (object_classes_then k ss)
    → ReadsSymbols (reader (at.Between lists.ObjectClasses) 2 [] c) (reader (at.Between lists.ObjectClasses) 2 [] (object_classes_declare k c)) ts ss
unfolding after_close
object_classes_read NoClass c ts ss fit sp = record { rest = ts; spelled = sp; same = refl }
object_classes_read (TopClass n body others) c ts ss fit sp =
    let inner = (length c.object_classes + 1) ∷ [] in
    let opened = with_object_class [] n c in
    let a = begin_read word.Class lists.ObjectClasses (at.Name name.ObjectClass) 2 [] c ts _ (omega arith) refl sp in
    let b = name_read name.ObjectClass n 3 [] c (reader (at.Between lists.ObjectItems) 3 inner opened) a.rest _ fit.0 (class_named n 3 [] c fit.1) a.spelled in
    let i = object_items_read body 3 inner opened b.rest _ (omega arith) fit.2 b.spelled in
    let declared = object_items_declare inner body opened in
    let e = right_read _ (reader (at.Between lists.ObjectClasses) 2 [] declared) i.rest _ refl i.spelled in
    let r = object_classes_read others declared e.rest ss fit.3 e.spelled in
    record { rest = r.rest; spelled = r.spelled; same = a.same ∙ b.same ∙ i.same ∙ e.same ∙ r.same }

-- What is in the grammar is read: parameters and interaction classes.
use Rattle.hla_base.specs.Limits.{max_classes, max_parameters}
use Rattle.std.proofs.Common.{◌≡◌, ℕ, ◌+◌, ◌<◌, ◌==◌, Bool, true, false, List, [], ◌∷◌, ◌++◌, length, Option, None, Some, Ok, Err, nat_le, cond, refl, sym, ap, ◌∙◌, arith}
use Rattle.hla_fed_file.specs.Lexical.{Lexed}
use Rattle.hla_catalogue.specs.CatalogueValue.{CatalogueValue}
use Rattle.hla_catalogue.specs.Declaring.{interaction_class, with_interaction_class, with_parameter, has_parameter_named}
use Rattle.hla_fed_file.specs.Reading.{reading, after_open, after_close, after_word, after_quoted, after_name_at, Step}
use Rattle.hla_fed_file.specs.Grammar.{Symbol, LeftParen, RightParen, Means, Named, Spells, Options, Bare, Ordered, SecLevels, NoLevel, ALevel, InteractionItems, NoEntry, AParameter, ALevelList, ASubclass, InteractionClasses, NoTop, ATop, transport_then, space_then, options_then, levels_then, interaction_items_then, interaction_classes_then, transport_of, order_of, interaction_items_declare, interaction_classes_declare, IsShort, levels_fit, ParameterFits, interaction_items_fit, interaction_classes_fit}
use Rattle.hla_catalogue.specs.declared.declared.InteractionClass.{InteractionClass}
use Rattle.hla_catalogue.specs.declared.declared.Order.{Order}
use Rattle.hla_catalogue.specs.declared.declared.Order.TheVariants as order
use Rattle.hla_catalogue.specs.declared.declared.Transport.{Transport}
use Rattle.hla_catalogue.specs.declared.declared.Transport.TheVariants as transport
use Rattle.hla_fed_file.specs.declared.fault.FedFaultKind.TheVariants as kind
use Rattle.hla_fed_file.specs.declared.place.Keyword.TheVariants as word
use Rattle.hla_fed_file.specs.declared.place.Head.TheVariants as head
use Rattle.hla_fed_file.specs.declared.place.NameOf.TheVariants as name
use Rattle.hla_fed_file.specs.declared.place.Lists.TheVariants as lists
use Rattle.hla_fed_file.specs.declared.place.OptionStage.{OptionStage}
use Rattle.hla_fed_file.specs.declared.place.OptionStage.TheVariants as stage
use Rattle.hla_fed_file.specs.declared.place.Within.TheVariants as within
use Rattle.hla_fed_file.specs.declared.place.Place.TheVariants as at
use Rattle.hla_fed_file.specs.declared.reader.Reader.{Reader}
use Rattle.hla_fed_file.proofs.Forward.ReadSteps.{ReadsSymbols, above_zero, alike, any_read, below_limit, paren_opened, down, fits_left, fits_right, keyword_read, list_read, name_read, pending, reader, right_read}
use Rattle.hla_fed_file.proofs.Forward.ReadObjects.{begin_read, item_opens, stage_of}

-- Interaction classes.
abbrev pub class_carried : Option Transport → InteractionClass → InteractionClass
class_carried None k = k
class_carried (Some t) k = record k { transport = t }

-- a class behind its options
abbrev pub class_amended : Options → InteractionClass → InteractionClass
class_amended (Bare t) k = class_carried t k
class_amended (Ordered t o space) k = record (class_carried t k) { order = o }

abbrev pub with_class : InteractionClass → CatalogueValue → CatalogueValue
with_class k c = record c { interaction_classes = c.interaction_classes ++ k ∷ [] }

-- a class is declared where its options end
abbrev pub inside : ℕ → InteractionClass → CatalogueValue → Reader
inside d k c = reader (at.Between lists.InteractionItems) d k.lineage (with_class k c)

-- what may stand behind options that end, whether or not the class is declared by then
pub data BehindOptions (k : InteractionClass) (d : ℕ) (l : List ℕ) (c : CatalogueValue) : Reader → Type 0 where
  Waits : (o : OptionStage) → BehindOptions k d l c (pending (at.ClassOptions o) d l k c)
  Declared : BehindOptions k d l c (inside d k c)

-- such readers open and close alike
pub behind_opens : (k : InteractionClass) (d : ℕ) (l : List ℕ) (c : CatalogueValue) (s : Reader) → BehindOptions k d l c s → after_open s ≡ after_open (inside d k c)
unfolding after_open
behind_opens k d l c s (Waits o) = refl
behind_opens k d l c s Declared = refl

pub behind_closes : (k : InteractionClass) (d : ℕ) (l : List ℕ) (c : CatalogueValue) (s : Reader) → BehindOptions k d l c s → after_close s ≡ after_close (inside d k c)
unfolding after_close
behind_closes k d l c s (Waits o) = refl
behind_closes k d l c s Declared = refl

-- what was read of options
record ClassOptionsRead (s : Reader) (k : InteractionClass) (d : ℕ) (l : List ℕ) (c : CatalogueValue) (ts : List Lexed) (ss : List Symbol) : Type 0 where
  after : Reader
  behind : BehindOptions k d l c after
  reads : ReadsSymbols s after ts ss

class_transport_read : (t : Option Transport) (d : ℕ) (l : List ℕ) (k : InteractionClass) (c : CatalogueValue) (ts : List Lexed) (ss : List Symbol) → Spells ts (transport_then t ss)
    → ReadsSymbols (pending (at.ClassOptions stage.Named) d l k c) (pending (at.ClassOptions (stage_of t)) d l (class_carried t k) c) ts ss
unfolding after_word
class_transport_read None d l k c ts ss sp = record { rest = ts; spelled = sp; same = refl }
class_transport_read (Some t) d l k c ts ss sp = keyword_read (word.Carried t) _ (pending (at.ClassOptions stage.Carried) d l (class_carried (Some t) k) c) ts ss (λ w h. rw h refl) sp

class_order_read : (t : Option Transport) (o : Order) (d : ℕ) (l : List ℕ) (k : InteractionClass) (c : CatalogueValue) (ts : List Lexed) (ss : List Symbol) → Spells ts (Means (word.Ordered o) ∷ ss)
    → ReadsSymbols (pending (at.ClassOptions (stage_of t)) d l k c) (pending (at.ClassOptions stage.Ordered) d l (record k { order = o }) c) ts ss
unfolding after_word
class_order_read None o d l k c ts ss sp = keyword_read (word.Ordered o) _ (pending (at.ClassOptions stage.Ordered) d l (record k { order = o }) c) ts ss (λ w h. rw h refl) sp
class_order_read (Some t) o d l k c ts ss sp = keyword_read (word.Ordered o) _ (pending (at.ClassOptions stage.Ordered) d l (record k { order = o }) c) ts ss (λ w h. rw h refl) sp

class_space_read : (space : Bool) (d : ℕ) (l : List ℕ) (k : InteractionClass) (c : CatalogueValue) (ts : List Lexed) (ss : List Symbol) → Spells ts (space_then space ss)
    → ClassOptionsRead (pending (at.ClassOptions stage.Ordered) d l k c) k d l c ts ss
unfolding after_word after_quoted
class_space_read false d l k c ts ss sp = record { after = pending (at.ClassOptions stage.Ordered) d l k c; behind = Waits stage.Ordered; reads = record { rest = ts; spelled = sp; same = refl } }
class_space_read true d l k c ts ss sp = record { after = inside d k c; behind = Declared; reads = any_read _ (inside d k c) ts ss (λ w. refl) (λ w. refl) sp }

class_options_read : (o : Options) (d : ℕ) (l : List ℕ) (k : InteractionClass) (c : CatalogueValue) (ts : List Lexed) (ss : List Symbol) → Spells ts (options_then o ss)
    → ClassOptionsRead (pending (at.ClassOptions stage.Named) d l k c) (class_amended o k) d l c ts ss
class_options_read (Bare t) d l k c ts ss sp =
    record { after = pending (at.ClassOptions (stage_of t)) d l (class_carried t k) c; behind = Waits (stage_of t); reads = class_transport_read t d l k c ts ss sp }
class_options_read (Ordered t o space) d l k c ts ss sp =
    let a = class_transport_read t d l k c ts _ sp in
    let b = class_order_read t o d l (class_carried t k) c a.rest _ a.spelled in
    let e = class_space_read space d l (record (class_carried t k) { order = o }) c b.rest ss b.spelled in
    record { after = e.after; behind = e.behind; reads = record { rest = e.reads.rest; spelled = e.reads.spelled; same = a.same ∙ b.same ∙ e.reads.same } }

-- behind options only a parenthesis stands
same_left : (s s' : Reader) (ts : List Lexed) (ss : List Symbol) → after_open s ≡ after_open s' → Spells ts (LeftParen ∷ ss) → reading s ts ≡ reading s' ts
same_left s s' [] ss e sp = absurd sp
same_left s s' (t ∷ ts) ss e sp =
    let f = fits_left t.token s sp.0 in
    let g = fits_left t.token s' sp.0 in
    alike s s' t ts f.0 (f.1 ∙ e ∙ sym g.1)

same_right : (s s' : Reader) (ts : List Lexed) (ss : List Symbol) → after_close s ≡ after_close s' → Spells ts (RightParen ∷ ss) → reading s ts ≡ reading s' ts
same_right s s' [] ss e sp = absurd sp
same_right s s' (t ∷ ts) ss e sp =
    let f = fits_right t.token s sp.0 in
    let g = fits_right t.token s' sp.0 in
    alike s s' t ts f.0 (f.1 ∙ e ∙ sym g.1)

behind_reads : (i : InteractionItems) (k : InteractionClass) (d : ℕ) (l : List ℕ) (c : CatalogueValue) (s : Reader) (ts : List Lexed) (ss : List Symbol) → BehindOptions k d l c s → Spells ts (interaction_items_then i (RightParen ∷ ss))
    → reading s ts ≡ reading (inside d k c) ts
behind_reads NoEntry k d l c s ts ss b sp = same_right s (inside d k c) ts ss (behind_closes k d l c s b) sp
behind_reads (AParameter n levels others) k d l c s ts ss b sp = same_left s (inside d k c) ts _ (behind_opens k d l c s b) sp
behind_reads (ALevelList inner others) k d l c s ts ss b sp = same_left s (inside d k c) ts _ (behind_opens k d l c s b) sp
behind_reads (ASubclass n options body others) k d l c s ts ss b sp = same_left s (inside d k c) ts _ (behind_opens k d l c s b) sp

-- the next interaction class
abbrev pub first_of_class : CatalogueValue → List ℕ → List ℕ → InteractionClass
first_of_class c l n = interaction_class c l n transport.Reliable order.Receive

interaction_named : (n : List ℕ) (d : ℕ) (l : List ℕ) (c : CatalogueValue) → length c.interaction_classes < max_classes
    → after_name_at name.InteractionClass (reader (at.Name name.InteractionClass) d l c) n ≡ Ok (pending (at.ClassOptions stage.Named) d l (first_of_class c l n) c)
interaction_named n d l c h = let e : nat_le max_classes (length c.interaction_classes) ≡ false = below_limit _ _ h in rw e refl

pub amended_class : (o : Options) (l n : List ℕ) (c : CatalogueValue) → class_amended o (first_of_class c l n) ≡ interaction_class c l n (transport_of o) (order_of o)
amended_class (Bare None) l n c = refl
amended_class (Bare (Some t)) l n c = refl
amended_class (Ordered None o space) l n c = refl
amended_class (Ordered (Some t) o space) l n c = refl

-- a class with its options, up to what stands in it
class_head_read : (n : List ℕ) (o : Options) (i : InteractionItems) (d : ℕ) (l : List ℕ) (c : CatalogueValue) (ts : List Lexed) (ss : List Symbol) → IsShort n → length c.interaction_classes < max_classes
    → Spells ts (Named n ∷ options_then o (interaction_items_then i (RightParen ∷ ss)))
    → ReadsSymbols (reader (at.Name name.InteractionClass) d l c) (reader (at.Between lists.InteractionItems) d ((length c.interaction_classes + 1) ∷ l) (with_interaction_class l n (transport_of o) (order_of o) c)) ts (interaction_items_then i (RightParen ∷ ss))
class_head_read n o i d l c ts ss short room sp =
    let first = first_of_class c l n in
    let a = name_read name.InteractionClass n d l c (pending (at.ClassOptions stage.Named) d l first c) ts _ short (interaction_named n d l c room) sp in
    let b = class_options_read o d l first c a.rest _ a.spelled in
    let behind = behind_reads i (class_amended o first) d l c b.after b.reads.rest ss b.behind b.reads.spelled in
    let whole = ap (λ (k : InteractionClass). reading (inside d k c) b.reads.rest) (amended_class o l n c) in
    record { rest = b.reads.rest; spelled = b.reads.spelled; same = a.same ∙ b.reads.same ∙ behind ∙ whole }

-- behind a class in a class
pub interaction_closes : (d n : ℕ) (l : List ℕ) (c : CatalogueValue) → 0 < length l → after_close (reader (at.Between lists.InteractionItems) (d + 1) (n ∷ l) c) ≡ Ok (reader (at.Between lists.InteractionItems) d l c)
unfolding after_close
interaction_closes d n l c h = let e : (length l == 0) ≡ false = above_zero _ h in rw (e, down d) refl

-- the security levels of a parameter, and its end
parameter_end_opens : (d : ℕ) (l : List ℕ) (c : CatalogueValue) → d < 64 → after_open (reader at.ParameterEnd d l c) ≡ Ok (reader (at.Head head.ParameterItem) (d + 1) l c)
unfolding after_open
parameter_end_opens d l c h = paren_opened (at.Head head.ParameterItem) (reader at.ParameterEnd d l c) h

pub parameter_closes : (d : ℕ) (l : List ℕ) (c : CatalogueValue) → after_close (reader at.ParameterEnd (d + 1) l c) ≡ Ok (reader (at.Between lists.InteractionItems) d l c)
unfolding after_close
parameter_closes d l c = ap (λ (n : ℕ). Ok (reader (at.Between lists.InteractionItems) n l c)) (down d)

parameter_levels_read : (v : SecLevels) (d : ℕ) (l : List ℕ) (c : CatalogueValue) (ts : List Lexed) (ss : List Symbol) → levels_fit (d + 1) v → Spells ts (levels_then v (RightParen ∷ ss))
    → ReadsSymbols (reader at.ParameterEnd (d + 1) l c) (reader (at.Between lists.InteractionItems) d l c) ts ss
parameter_levels_read NoLevel d l c ts ss fit sp = right_read _ _ ts ss (parameter_closes d l c) sp
parameter_levels_read (ALevel inner others) d l c ts ss fit sp =
    let a = list_read word.SecLevel head.ParameterItem within.Parameter inner at.ParameterEnd (reader at.ParameterEnd (d + 1) l c) (d + 1) ts _ (parameter_end_opens (d + 1) l c fit.0) refl fit.1 sp in
    let r = parameter_levels_read others d l c a.rest ss fit.2 a.spelled in
    record { rest = r.rest; spelled = r.spelled; same = a.same ∙ r.same }

parameter_kept : (b : Bool) (d : ℕ) (l : List ℕ) (c more : CatalogueValue) → (b ≡ false → length c.parameters < max_parameters)
    → cond {A = Step} b (Ok (reader at.ParameterEnd d l c)) (cond {A = Step} (nat_le max_parameters (length c.parameters)) (Err kind.TooLarge) (Ok (reader at.ParameterEnd d l (cond b c more)))) ≡ Ok (reader at.ParameterEnd d l (cond b c more))
parameter_kept true d l c more room = refl
parameter_kept false d l c more room = let e : nat_le max_parameters (length c.parameters) ≡ false = below_limit _ _ (room refl) in rw e refl

parameter_read : (n : List ℕ) (v : SecLevels) (d : ℕ) (l : List ℕ) (c : CatalogueValue) (ts : List Lexed) (ss : List Symbol) → d < 64 → IsShort n → ParameterFits l n c → levels_fit (d + 1) v
    → Spells ts (LeftParen ∷ Means word.Parameter ∷ Named n ∷ levels_then v (RightParen ∷ ss)) → ReadsSymbols (reader (at.Between lists.InteractionItems) d l c) (reader (at.Between lists.InteractionItems) d l (with_parameter l n c)) ts ss
parameter_read n v d l c ts ss h short room fit sp =
    let a = begin_read word.Parameter lists.InteractionItems (at.Name name.Parameter) d l c ts _ h refl sp in
    let b = name_read name.Parameter n (d + 1) l c (reader at.ParameterEnd (d + 1) l (with_parameter l n c)) a.rest _ short (parameter_kept (has_parameter_named c l n) (d + 1) l c _ room) a.spelled in
    let r = parameter_levels_read v d l (with_parameter l n c) b.rest ss fit b.spelled in
    record { rest = r.rest; spelled = r.spelled; same = a.same ∙ b.same ∙ r.same }

pub interaction_items_read : (i : InteractionItems) (d : ℕ) (l : List ℕ) (c : CatalogueValue) (ts : List Lexed) (ss : List Symbol) → 0 < length l → interaction_items_fit d l i c → Spells ts (interaction_items_then i ss)
    → ReadsSymbols (reader (at.Between lists.InteractionItems) d l c) (reader (at.Between lists.InteractionItems) d l (interaction_items_declare l i c)) ts ss
interaction_items_read NoEntry d l c ts ss h fit sp = record { rest = ts; spelled = sp; same = refl }
interaction_items_read (AParameter n levels others) d l c ts ss h fit sp =
    let a = parameter_read n levels d l c ts _ fit.0 fit.1 fit.2 fit.3 sp in
    let r = interaction_items_read others d l (with_parameter l n c) a.rest ss h fit.4 a.spelled in
    record { rest = r.rest; spelled = r.spelled; same = a.same ∙ r.same }
interaction_items_read (ALevelList inner others) d l c ts ss h fit sp =
    let a = list_read word.SecLevel head.InteractionItem within.InteractionClass inner (at.Between lists.InteractionItems) (reader (at.Between lists.InteractionItems) d l c) d ts _ (item_opens d l c lists.InteractionItems fit.0) refl fit.1 sp in
    let r = interaction_items_read others d l c a.rest ss h fit.2 a.spelled in
    record { rest = r.rest; spelled = r.spelled; same = a.same ∙ r.same }
interaction_items_read (ASubclass n options body others) d l c ts ss h fit sp =
    let inner = (length c.interaction_classes + 1) ∷ l in
    let opened = with_interaction_class l n (transport_of options) (order_of options) c in
    let a = begin_read word.Class lists.InteractionItems (at.Name name.InteractionClass) d l c ts _ fit.0 refl sp in
    let b = class_head_read n options body (d + 1) l c a.rest _ fit.1 fit.2 a.spelled in
    let i = interaction_items_read body (d + 1) inner opened b.rest _ (omega arith) fit.3 b.spelled in
    let declared = interaction_items_declare inner body opened in
    let e = right_read _ _ i.rest _ (interaction_closes d (length c.interaction_classes + 1) l declared h) i.spelled in
    let r = interaction_items_read others d l declared e.rest ss h fit.4 e.spelled in
    record { rest = r.rest; spelled = r.spelled; same = a.same ∙ b.same ∙ i.same ∙ e.same ∙ r.same }

pub interaction_classes_read : (k : InteractionClasses) (c : CatalogueValue) (ts : List Lexed) (ss : List Symbol) → interaction_classes_fit k c → Spells ts (interaction_classes_then k ss)
    → ReadsSymbols (reader (at.Between lists.InteractionClasses) 2 [] c) (reader (at.Between lists.InteractionClasses) 2 [] (interaction_classes_declare k c)) ts ss
unfolding after_close
interaction_classes_read NoTop c ts ss fit sp = record { rest = ts; spelled = sp; same = refl }
interaction_classes_read (ATop n options body others) c ts ss fit sp =
    let inner = (length c.interaction_classes + 1) ∷ [] in
    let opened = with_interaction_class [] n (transport_of options) (order_of options) c in
    let a = begin_read word.Class lists.InteractionClasses (at.Name name.InteractionClass) 2 [] c ts _ (omega arith) refl sp in
    let b = class_head_read n options body 3 [] c a.rest _ fit.0 fit.1 a.spelled in
    let i = interaction_items_read body 3 inner opened b.rest _ (omega arith) fit.2 b.spelled in
    let declared = interaction_items_declare inner body opened in
    let e = right_read _ (reader (at.Between lists.InteractionClasses) 2 [] declared) i.rest _ refl i.spelled in
    let r = interaction_classes_read others declared e.rest ss fit.3 e.spelled in
    record { rest = r.rest; spelled = r.spelled; same = a.same ∙ b.same ∙ i.same ∙ e.same ∙ r.same }

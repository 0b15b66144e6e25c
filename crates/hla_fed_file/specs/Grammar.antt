-- The grammar of FED files, and what a file declares
use Rattle.std.specs.Prelude.{◌≡◌, ℕ, ◌+◌, ◌≤◌, ◌<◌, Bool, true, false, List, [], ◌∷◌, length, Option, None, Some}
use Rattle.hla_base.specs.Limits.{max_fed_file, max_fed_nesting, max_name, max_classes, max_attributes, max_parameters}
use Rattle.hla_fed_file.specs.Lexical as text
use Rattle.hla_fed_file.specs.Lexical.{Lexed, tokens}
use Rattle.hla_fed_file.specs.Keywords.{keyword_of}
use Rattle.hla_catalogue.specs.CatalogueValue.{CatalogueValue, empty_catalogue}
use Rattle.hla_catalogue.specs.Declaring.{with_object_class, with_interaction_class, with_attribute, with_parameter, has_attribute_named, has_parameter_named}
use Rattle.hla_catalogue.specs.declared.declared.Order.{Order}
use Rattle.hla_catalogue.specs.declared.declared.Order.TheVariants as order
use Rattle.hla_catalogue.specs.declared.declared.Transport.{Transport}
use Rattle.hla_catalogue.specs.declared.declared.Transport.TheVariants as transport
use Rattle.hla_fed_file.specs.declared.place.Keyword.{Keyword}
use Rattle.hla_fed_file.specs.declared.place.Keyword.TheVariants as word

-- What a file is made of. Each thing is followed by the others that stand behind it in the same list.

-- names and lists of such, all ignored
pub data Ignored : Type 0 where
  NoMore : Ignored
  AName : (others : Ignored) → Ignored
  AList : (inside : Ignored) (others : Ignored) → Ignored

-- the words behind the name of an attribute or an interaction class: perhaps a transport, and perhaps an order with perhaps a routing space
pub data Options : Type 0 where
  Bare : (transport : Option Transport) → Options
  Ordered : (transport : Option Transport) (order : Order) (space : Bool) → Options

-- ignored lists of security levels
pub data SecLevels : Type 0 where
  NoLevel : SecLevels
  ALevel : (inside : Ignored) (others : SecLevels) → SecLevels

-- what stands in an object class
pub data ObjectItems : Type 0 where
  NoItem : ObjectItems
  AnAttribute : (name : List ℕ) (options : Options) (levels : SecLevels) (others : ObjectItems) → ObjectItems
  ASecLevel : (inside : Ignored) (others : ObjectItems) → ObjectItems
  AClass : (name : List ℕ) (body : ObjectItems) (others : ObjectItems) → ObjectItems

-- what stands in an interaction class
pub data InteractionItems : Type 0 where
  NoEntry : InteractionItems
  AParameter : (name : List ℕ) (levels : SecLevels) (others : InteractionItems) → InteractionItems
  ALevelList : (inside : Ignored) (others : InteractionItems) → InteractionItems
  ASubclass : (name : List ℕ) (options : Options) (body : InteractionItems) (others : InteractionItems) → InteractionItems

-- the classes of an objects list
pub data ObjectClasses : Type 0 where
  NoClass : ObjectClasses
  TopClass : (name : List ℕ) (body : ObjectItems) (others : ObjectClasses) → ObjectClasses

-- the classes of an interactions list
pub data InteractionClasses : Type 0 where
  NoTop : InteractionClasses
  ATop : (name : List ℕ) (options : Options) (body : InteractionItems) (others : InteractionClasses) → InteractionClasses

-- the parts of a file, in any order and each as often as wanted
pub data Parts : Type 0 where
  NoPart : Parts
  ALabel : (name : List ℕ) (others : Parts) → Parts
  AnIgnored : (inside : Ignored) (others : Parts) → Parts
  Objects : (classes : ObjectClasses) (others : Parts) → Parts
  Interactions : (classes : InteractionClasses) (others : Parts) → Parts

-- What stands at a place of a text: a parenthesis, a keyword, this name or any, the end
pub data Symbol : Type 0 where
  LeftParen : Symbol
  RightParen : Symbol
  Means : (keyword : Keyword) → Symbol
  Named : (name : List ℕ) → Symbol
  AnyName : Symbol
  TheEnd : Symbol

abbrev pub Fits : text.Token → Symbol → Type 0
Fits text.Open LeftParen = Unit {0}
Fits text.Close RightParen = Unit {0}
Fits (text.Word w) (Means k) = keyword_of w ≡ Some k
Fits (text.Word w) (Named n) = w ≡ n
Fits (text.Quoted w) (Named n) = w ≡ n
Fits (text.Word w) AnyName = Unit {0}
Fits (text.Quoted w) AnyName = Unit {0}
Fits text.End TheEnd = Unit {0}
Fits token symbol = ⊥

-- the tokens of a text are these symbols; nothing stands behind its end
abbrev pub Spells : List Lexed → List Symbol → Type 0
Spells [] [] = Unit {0}
Spells [] (s ∷ ss) = ⊥
Spells (t ∷ ts) [] = ⊥
Spells (t ∷ ts) (TheEnd ∷ ss) = Fits t.token TheEnd
Spells (t ∷ ts) (s ∷ ss) = Fits t.token s × Spells ts ss

-- How each thing is spelled, before the symbols that follow it.

-- any* = name, or ( any* )
abbrev pub ignored_then : Ignored → List Symbol → List Symbol
ignored_then NoMore ss = ss
ignored_then (AName others) ss = AnyName ∷ ignored_then others ss
ignored_then (AList inside others) ss = LeftParen ∷ ignored_then inside (RightParen ∷ ignored_then others ss)

abbrev pub transport_then : Option Transport → List Symbol → List Symbol
transport_then None ss = ss
transport_then (Some t) ss = Means (word.Carried t) ∷ ss

abbrev pub space_then : Bool → List Symbol → List Symbol
space_then true ss = AnyName ∷ ss
space_then false ss = ss

-- opts = [transport] [order [name]]
abbrev pub options_then : Options → List Symbol → List Symbol
options_then (Bare t) ss = transport_then t ss
options_then (Ordered t o space) ss = transport_then t (Means (word.Ordered o) ∷ space_then space ss)

-- sec = ( sec_level any* )
abbrev pub levels_then : SecLevels → List Symbol → List Symbol
levels_then NoLevel ss = ss
levels_then (ALevel inside others) ss = LeftParen ∷ Means word.SecLevel ∷ ignored_then inside (RightParen ∷ levels_then others ss)

-- ( attribute name opts sec* ), sec, or ( class name oitem* )
abbrev pub object_items_then : ObjectItems → List Symbol → List Symbol
object_items_then NoItem ss = ss
object_items_then (AnAttribute name options levels others) ss = LeftParen ∷ Means word.Attribute ∷ Named name ∷ options_then options (levels_then levels (RightParen ∷ object_items_then others ss))
object_items_then (ASecLevel inside others) ss = LeftParen ∷ Means word.SecLevel ∷ ignored_then inside (RightParen ∷ object_items_then others ss)
object_items_then (AClass name body others) ss = LeftParen ∷ Means word.Class ∷ Named name ∷ object_items_then body (RightParen ∷ object_items_then others ss)

-- ( parameter name sec* ), sec, or ( class name opts iitem* )
abbrev pub interaction_items_then : InteractionItems → List Symbol → List Symbol
interaction_items_then NoEntry ss = ss
interaction_items_then (AParameter name levels others) ss = LeftParen ∷ Means word.Parameter ∷ Named name ∷ levels_then levels (RightParen ∷ interaction_items_then others ss)
interaction_items_then (ALevelList inside others) ss = LeftParen ∷ Means word.SecLevel ∷ ignored_then inside (RightParen ∷ interaction_items_then others ss)
interaction_items_then (ASubclass name options body others) ss = LeftParen ∷ Means word.Class ∷ Named name ∷ options_then options (interaction_items_then body (RightParen ∷ interaction_items_then others ss))

abbrev pub object_classes_then : ObjectClasses → List Symbol → List Symbol
object_classes_then NoClass ss = ss
object_classes_then (TopClass name body others) ss = LeftParen ∷ Means word.Class ∷ Named name ∷ object_items_then body (RightParen ∷ object_classes_then others ss)

abbrev pub interaction_classes_then : InteractionClasses → List Symbol → List Symbol
interaction_classes_then NoTop ss = ss
interaction_classes_then (ATop name options body others) ss = LeftParen ∷ Means word.Class ∷ Named name ∷ options_then options (interaction_items_then body (RightParen ∷ interaction_classes_then others ss))

-- ( Federation name ) or ( FEDversion name ), ( federate any* ) or ( spaces any* ), ( objects oclass* ), ( interactions iclass* )
abbrev pub parts_then : Parts → List Symbol → List Symbol
parts_then NoPart ss = ss
parts_then (ALabel name others) ss = LeftParen ∷ Means word.Label ∷ Named name ∷ RightParen ∷ parts_then others ss
parts_then (AnIgnored inside others) ss = LeftParen ∷ Means word.Ignored ∷ ignored_then inside (RightParen ∷ parts_then others ss)
parts_then (Objects classes others) ss = LeftParen ∷ Means word.Objects ∷ object_classes_then classes (RightParen ∷ parts_then others ss)
parts_then (Interactions classes others) ss = LeftParen ∷ Means word.Interactions ∷ interaction_classes_then classes (RightParen ∷ parts_then others ss)

-- ( FED part* ), and then the end
abbrev pub file_of : Parts → List Symbol
file_of parts = LeftParen ∷ Means word.Fed ∷ parts_then parts (RightParen ∷ TheEnd ∷ [])

-- a text is a file of these parts
abbrev pub IsFile : List ℕ → Parts → Type 0
IsFile text parts = Spells (tokens text) (file_of parts)

-- What each thing declares, in the classes around it, innermost first.

-- a missing transport is reliable
abbrev pub transport_or : Option Transport → Transport
transport_or None = transport.Reliable
transport_or (Some t) = t

abbrev pub transport_of : Options → Transport
transport_of (Bare t) = transport_or t
transport_of (Ordered t o space) = transport_or t

-- a missing order is receive
abbrev pub order_of : Options → Order
order_of (Bare t) = order.Receive
order_of (Ordered t o space) = o

abbrev pub object_items_declare : List ℕ → ObjectItems → CatalogueValue → CatalogueValue
object_items_declare lineage NoItem c = c
object_items_declare lineage (AnAttribute name options levels others) c = object_items_declare lineage others (with_attribute lineage name (transport_of options) (order_of options) c)
object_items_declare lineage (ASecLevel inside others) c = object_items_declare lineage others c
object_items_declare lineage (AClass name body others) c = object_items_declare lineage others (object_items_declare ((length c.object_classes + 1) ∷ lineage) body (with_object_class lineage name c))

abbrev pub interaction_items_declare : List ℕ → InteractionItems → CatalogueValue → CatalogueValue
interaction_items_declare lineage NoEntry c = c
interaction_items_declare lineage (AParameter name levels others) c = interaction_items_declare lineage others (with_parameter lineage name c)
interaction_items_declare lineage (ALevelList inside others) c = interaction_items_declare lineage others c
interaction_items_declare lineage (ASubclass name options body others) c =
    interaction_items_declare lineage others (interaction_items_declare ((length c.interaction_classes + 1) ∷ lineage) body (with_interaction_class lineage name (transport_of options) (order_of options) c))

abbrev pub object_classes_declare : ObjectClasses → CatalogueValue → CatalogueValue
object_classes_declare NoClass c = c
object_classes_declare (TopClass name body others) c = object_classes_declare others (object_items_declare ((length c.object_classes + 1) ∷ []) body (with_object_class [] name c))

abbrev pub interaction_classes_declare : InteractionClasses → CatalogueValue → CatalogueValue
interaction_classes_declare NoTop c = c
interaction_classes_declare (ATop name options body others) c =
    interaction_classes_declare others (interaction_items_declare ((length c.interaction_classes + 1) ∷ []) body (with_interaction_class [] name (transport_of options) (order_of options) c))

abbrev pub parts_declare : Parts → CatalogueValue → CatalogueValue
parts_declare NoPart c = c
parts_declare (ALabel name others) c = parts_declare others c
parts_declare (AnIgnored inside others) c = parts_declare others c
parts_declare (Objects classes others) c = parts_declare others (object_classes_declare classes c)
parts_declare (Interactions classes others) c = parts_declare others (interaction_classes_declare classes c)

-- What fits the limits, where so many parentheses are open: names of 1 to 255 bytes, 64 parentheses, 512 classes of each kind, 4,096 attributes and 4,096 parameters. Ignored names may be empty and of any length.
abbrev pub IsShort : List ℕ → Type 0
IsShort name = (0 < length name) × (length name ≤ max_name)

abbrev pub ignored_fit : ℕ → Ignored → Type 0
ignored_fit depth NoMore = Unit {0}
ignored_fit depth (AName others) = ignored_fit depth others
ignored_fit depth (AList inside others) = (depth < max_fed_nesting) × ignored_fit (depth + 1) inside × ignored_fit depth others

abbrev pub levels_fit : ℕ → SecLevels → Type 0
levels_fit depth NoLevel = Unit {0}
levels_fit depth (ALevel inside others) = (depth < max_fed_nesting) × ignored_fit (depth + 1) inside × levels_fit depth others

-- an attribute that is not ignored has room
abbrev pub AttributeFits : List ℕ → List ℕ → CatalogueValue → Type 0
AttributeFits lineage name c = has_attribute_named c lineage name ≡ false → length c.attributes < max_attributes

abbrev pub ParameterFits : List ℕ → List ℕ → CatalogueValue → Type 0
ParameterFits lineage name c = has_parameter_named c lineage name ≡ false → length c.parameters < max_parameters

abbrev pub object_items_fit : ℕ → List ℕ → ObjectItems → CatalogueValue → Type 0
object_items_fit depth lineage NoItem c = Unit {0}
object_items_fit depth lineage (AnAttribute name options levels others) c =
    (depth < max_fed_nesting) × IsShort name × AttributeFits lineage name c × levels_fit (depth + 1) levels × object_items_fit depth lineage others (with_attribute lineage name (transport_of options) (order_of options) c)
object_items_fit depth lineage (ASecLevel inside others) c = (depth < max_fed_nesting) × ignored_fit (depth + 1) inside × object_items_fit depth lineage others c
object_items_fit depth lineage (AClass name body others) c =
    let inner = (length c.object_classes + 1) ∷ lineage in
    (depth < max_fed_nesting) × IsShort name × (length c.object_classes < max_classes) × object_items_fit (depth + 1) inner body (with_object_class lineage name c)
    × object_items_fit depth lineage others (object_items_declare inner body (with_object_class lineage name c))

abbrev pub interaction_items_fit : ℕ → List ℕ → InteractionItems → CatalogueValue → Type 0
interaction_items_fit depth lineage NoEntry c = Unit {0}
interaction_items_fit depth lineage (AParameter name levels others) c =
    (depth < max_fed_nesting) × IsShort name × ParameterFits lineage name c × levels_fit (depth + 1) levels × interaction_items_fit depth lineage others (with_parameter lineage name c)
interaction_items_fit depth lineage (ALevelList inside others) c = (depth < max_fed_nesting) × ignored_fit (depth + 1) inside × interaction_items_fit depth lineage others c
interaction_items_fit depth lineage (ASubclass name options body others) c =
    let inner = (length c.interaction_classes + 1) ∷ lineage in
    let opened = with_interaction_class lineage name (transport_of options) (order_of options) c in
    (depth < max_fed_nesting) × IsShort name × (length c.interaction_classes < max_classes) × interaction_items_fit (depth + 1) inner body opened
    × interaction_items_fit depth lineage others (interaction_items_declare inner body opened)

abbrev pub object_classes_fit : ObjectClasses → CatalogueValue → Type 0
object_classes_fit NoClass c = Unit {0}
object_classes_fit (TopClass name body others) c =
    let inner = (length c.object_classes + 1) ∷ [] in
    IsShort name × (length c.object_classes < max_classes) × object_items_fit 3 inner body (with_object_class [] name c)
    × object_classes_fit others (object_items_declare inner body (with_object_class [] name c))

abbrev pub interaction_classes_fit : InteractionClasses → CatalogueValue → Type 0
interaction_classes_fit NoTop c = Unit {0}
interaction_classes_fit (ATop name options body others) c =
    let inner = (length c.interaction_classes + 1) ∷ [] in
    let opened = with_interaction_class [] name (transport_of options) (order_of options) c in
    IsShort name × (length c.interaction_classes < max_classes) × interaction_items_fit 3 inner body opened
    × interaction_classes_fit others (interaction_items_declare inner body opened)

abbrev pub parts_fit : Parts → CatalogueValue → Type 0
parts_fit NoPart c = Unit {0}
parts_fit (ALabel name others) c = IsShort name × parts_fit others c
parts_fit (AnIgnored inside others) c = ignored_fit 2 inside × parts_fit others c
parts_fit (Objects classes others) c = object_classes_fit classes c × parts_fit others (object_classes_declare classes c)
parts_fit (Interactions classes others) c = interaction_classes_fit classes c × parts_fit others (interaction_classes_declare classes c)

-- the text is a file within the limits, and the catalogue is what it declares
pub record Describes (text : List ℕ) (catalogue : CatalogueValue) : Type 0 where
  pub parts : Parts
  pub is_file : IsFile text parts
  pub short : length text ≤ max_fed_file
  pub fits : parts_fit parts empty_catalogue
  pub declares : parts_declare parts empty_catalogue ≡ catalogue

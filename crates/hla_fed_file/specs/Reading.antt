-- Reading a FED text token by token: the first fault, or what the text declares
use Rattle.std.specs.Prelude.{◌≡◌, ℕ, ◌+◌, ◌-◌, Bool, true, false, ◌==◌, nat_lt, nat_le, List, [], ◌∷◌, ◌++◌, length, drop, Option, None, Some, Result, Ok, Err, if◌then◌else◌}
use Rattle.std.specs.Option.{option_map}
use Rattle.hla_base.specs.Limits.{max_fed_file, max_fed_nesting, max_name, max_classes, max_attributes, max_parameters}
use Rattle.hla_fed_file.specs.Lexical as text
use Rattle.hla_fed_file.specs.Lexical.{Lexed, tokens}
use Rattle.hla_fed_file.specs.Tokens.{is_end}
use Rattle.hla_fed_file.specs.Keywords.{keyword_of}
use Rattle.hla_catalogue.specs.CatalogueValue.{CatalogueValue, empty_catalogue}
use Rattle.hla_catalogue.specs.Declaring.{innermost, interaction_class, with_object_class, has_attribute_named, has_parameter_named, with_parameter}
use Rattle.hla_fed_file.specs.declared.fault.FedFault.{FedFault}
use Rattle.hla_fed_file.specs.declared.fault.FedFaultKind.{FedFaultKind}
use Rattle.hla_fed_file.specs.declared.fault.FedFaultKind.TheVariants as kind
use Rattle.hla_catalogue.specs.declared.declared.Attribute.{Attribute}
use Rattle.hla_catalogue.specs.declared.declared.InteractionClass.{InteractionClass}
use Rattle.hla_catalogue.specs.declared.declared.Order.TheVariants as order
use Rattle.hla_catalogue.specs.declared.declared.Transport.TheVariants as transport
use Rattle.hla_fed_file.specs.declared.place.Keyword.{Keyword}
use Rattle.hla_fed_file.specs.declared.place.Keyword.TheVariants as word
use Rattle.hla_fed_file.specs.declared.place.Head.{Head}
use Rattle.hla_fed_file.specs.declared.place.Head.TheVariants as head
use Rattle.hla_fed_file.specs.declared.place.NameOf.{NameOf}
use Rattle.hla_fed_file.specs.declared.place.NameOf.TheVariants as name
use Rattle.hla_fed_file.specs.declared.place.Lists.{Lists}
use Rattle.hla_fed_file.specs.declared.place.Lists.TheVariants as lists
use Rattle.hla_fed_file.specs.declared.place.OptionStage.{OptionStage}
use Rattle.hla_fed_file.specs.declared.place.OptionStage.TheVariants as stage
use Rattle.hla_fed_file.specs.declared.place.Within.{Within}
use Rattle.hla_fed_file.specs.declared.place.Within.TheVariants as within
use Rattle.hla_fed_file.specs.declared.place.Place.{Place}
use Rattle.hla_fed_file.specs.declared.place.Place.TheVariants as at
use Rattle.hla_fed_file.specs.declared.reader.Reader.{Reader}

-- the reader after a token, or what is wrong with the token
abbrev pub Step : Type 0
Step = Result Reader FedFaultKind

-- What a call answered and left is a step, unless memory ran out.
abbrev pub Fails : FedFaultKind → Step → Type 0
Fails kind.OutOfMemory step = Unit {0}
Fails k step = step ≡ Err k

abbrev pub Moves : Result (Unit {0}) FedFaultKind → Step → Reader → Type 0
Moves (Ok u) step new = step ≡ Ok new
Moves (Err k) step new = Fails k step

-- one more parenthesis is open, of at most max_fed_nesting
abbrev pub with_paren_opened : Place → Reader → Step
with_paren_opened place s = if nat_le max_fed_nesting s.depth then Err kind.TooLarge else Ok (record s { place = place; depth = s.depth + 1 })

-- one less is open
abbrev pub with_paren_closed : Place → Reader → Reader
with_paren_closed place s = record s { place = place; depth = s.depth - 1 }

-- the attribute that was read is declared, unless it is ignored
abbrev pub with_attribute_declared : Reader → Reader
with_attribute_declared s = added s.attribute
  where
    added : Option Attribute → Reader
    added None = s
    added (Some a) = record s { attribute = None; catalogue = record s.catalogue { attributes = s.catalogue.attributes ++ a ∷ [] } }

-- the interaction class whose options end is declared, and reading goes on in it
abbrev pub with_class_declared : Reader → Reader
with_class_declared s = added s.class
  where
    added : Option InteractionClass → Reader
    added None = s
    added (Some k) = record s { place = at.Between lists.InteractionItems; class = None; lineage = k.lineage; catalogue = record s.catalogue { interaction_classes = s.catalogue.interaction_classes ++ k ∷ [] } }

-- Behind an opening parenthesis.

-- whose keyword must stand, behind a parenthesis in such a list
abbrev pub head_in : Lists → Head
head_in lists.Parts = head.Part
head_in lists.ObjectClasses = head.ObjectClass
head_in lists.ObjectItems = head.ObjectItem
head_in lists.InteractionClasses = head.InteractionClass
head_in lists.InteractionItems = head.InteractionItem

abbrev pub after_open_at : Place → Reader → Step
after_open_at at.Start s = with_paren_opened (at.Head head.File) s
after_open_at (at.Head h) s = Err kind.UnknownKeyword
after_open_at (at.Name n) s = Err kind.ExpectedName
after_open_at (at.Between l) s = with_paren_opened (at.Head (head_in l)) s
after_open_at at.LabelEnd s = Err kind.ExpectedClose
after_open_at (at.AttributeOptions o) s = with_paren_opened (at.Head head.AttributeItem) s
after_open_at at.AttributeEnd s = with_paren_opened (at.Head head.AttributeItem) s
after_open_at (at.ClassOptions o) s = with_paren_opened (at.Head head.InteractionItem) (with_class_declared s)
after_open_at at.ParameterEnd s = with_paren_opened (at.Head head.ParameterItem) s
after_open_at (at.Ignored w d) s = with_paren_opened (at.Ignored w d) s
after_open_at at.Done s = Err kind.TrailingText

unfoldable pub after_open : Reader → Step
after_open s = after_open_at s.place s

-- Behind a closing parenthesis.

-- behind a class: in the class around it, or in the list of classes
abbrev pub with_class_left : Lists → Lists → Reader → Reader
with_class_left top inner s =
    let around = drop 1 s.lineage in
    with_paren_closed (at.Between (if length around == 0 then top else inner)) (record s { lineage = around })

abbrev pub with_list_closed : Lists → Reader → Reader
with_list_closed lists.Parts s = with_paren_closed at.Done s
with_list_closed lists.ObjectClasses s = with_paren_closed (at.Between lists.Parts) s
with_list_closed lists.ObjectItems s = with_class_left lists.ObjectClasses lists.ObjectItems s
with_list_closed lists.InteractionClasses s = with_paren_closed (at.Between lists.Parts) s
with_list_closed lists.InteractionItems s = with_class_left lists.InteractionClasses lists.InteractionItems s

-- the place behind an ignored list
abbrev pub place_behind : Within → Place
place_behind within.File = at.Between lists.Parts
place_behind within.ObjectClass = at.Between lists.ObjectItems
place_behind within.Attribute = at.AttributeEnd
place_behind within.InteractionClass = at.Between lists.InteractionItems
place_behind within.Parameter = at.ParameterEnd

abbrev pub after_close_at : Place → Reader → Step
after_close_at at.Start s = Err kind.ExpectedOpen
after_close_at (at.Head h) s = Err kind.UnknownKeyword
after_close_at (at.Name n) s = Err kind.ExpectedName
after_close_at (at.Between l) s = Ok (with_list_closed l s)
after_close_at at.LabelEnd s = Ok (with_paren_closed (at.Between lists.Parts) s)
after_close_at (at.AttributeOptions o) s = Ok (with_paren_closed (at.Between lists.ObjectItems) (with_attribute_declared s))
after_close_at at.AttributeEnd s = Ok (with_paren_closed (at.Between lists.ObjectItems) (with_attribute_declared s))
after_close_at (at.ClassOptions o) s = Ok (with_list_closed lists.InteractionItems (with_class_declared s))
after_close_at at.ParameterEnd s = Ok (with_paren_closed (at.Between lists.InteractionItems) s)
after_close_at (at.Ignored w d) s = Ok (with_paren_closed (if s.depth == d then place_behind w else at.Ignored w d) s)
after_close_at at.Done s = Err kind.TrailingText

unfoldable pub after_close : Reader → Step
after_close s = after_close_at s.place s

-- Behind a name where one must stand.
abbrev pub after_name_at : NameOf → Reader → List ℕ → Step
after_name_at name.Label s n = Ok (record s { place = at.LabelEnd })
after_name_at name.ObjectClass s n =
    if nat_le max_classes (length s.catalogue.object_classes) then Err kind.TooLarge
    else Ok (record s { place = at.Between lists.ObjectItems; lineage = (length s.catalogue.object_classes + 1) ∷ s.lineage; catalogue = with_object_class s.lineage n s.catalogue })
after_name_at name.Attribute s n =
    if has_attribute_named s.catalogue s.lineage n then Ok (record s { place = at.AttributeOptions stage.Named; attribute = None })
    else if nat_le max_attributes (length s.catalogue.attributes) then Err kind.TooLarge
    else Ok (record s { place = at.AttributeOptions stage.Named; attribute = Some (record { class = innermost s.lineage; name = n; transport = transport.Reliable; order = order.Receive }) })
after_name_at name.InteractionClass s n =
    if nat_le max_classes (length s.catalogue.interaction_classes) then Err kind.TooLarge
    else Ok (record s { place = at.ClassOptions stage.Named; class = Some (interaction_class s.catalogue s.lineage n transport.Reliable order.Receive) })
after_name_at name.Parameter s n =
    if has_parameter_named s.catalogue s.lineage n then Ok (record s { place = at.ParameterEnd })
    else if nat_le max_parameters (length s.catalogue.parameters) then Err kind.TooLarge
    else Ok (record s { place = at.ParameterEnd; catalogue = with_parameter s.lineage n s.catalogue })

unfoldable pub after_name : NameOf → Reader → List ℕ → Step
after_name what s n =
    if length n == 0 then Err kind.ExpectedName
    else if nat_lt max_name (length n) then Err kind.TooLarge
    else after_name_at what s n

-- Behind a bare word.

-- the place behind a keyword; an ignored list ends where as many parentheses are open as at its keyword
abbrev pub place_behind_keyword : Head → ℕ → Option Keyword → Option Place
place_behind_keyword head.File d (Some word.Fed) = Some (at.Between lists.Parts)
place_behind_keyword head.Part d (Some word.Label) = Some (at.Name name.Label)
place_behind_keyword head.Part d (Some word.Ignored) = Some (at.Ignored within.File d)
place_behind_keyword head.Part d (Some word.Objects) = Some (at.Between lists.ObjectClasses)
place_behind_keyword head.Part d (Some word.Interactions) = Some (at.Between lists.InteractionClasses)
place_behind_keyword head.ObjectClass d (Some word.Class) = Some (at.Name name.ObjectClass)
place_behind_keyword head.ObjectItem d (Some word.Class) = Some (at.Name name.ObjectClass)
place_behind_keyword head.ObjectItem d (Some word.Attribute) = Some (at.Name name.Attribute)
place_behind_keyword head.ObjectItem d (Some word.SecLevel) = Some (at.Ignored within.ObjectClass d)
place_behind_keyword head.AttributeItem d (Some word.SecLevel) = Some (at.Ignored within.Attribute d)
place_behind_keyword head.InteractionClass d (Some word.Class) = Some (at.Name name.InteractionClass)
place_behind_keyword head.InteractionItem d (Some word.Class) = Some (at.Name name.InteractionClass)
place_behind_keyword head.InteractionItem d (Some word.Parameter) = Some (at.Name name.Parameter)
place_behind_keyword head.InteractionItem d (Some word.SecLevel) = Some (at.Ignored within.InteractionClass d)
place_behind_keyword head.ParameterItem d (Some word.SecLevel) = Some (at.Ignored within.Parameter d)
place_behind_keyword h d k = None

abbrev pub with_place : Option Place → Reader → Step
with_place None s = Err kind.UnknownKeyword
with_place (Some place) s = Ok (record s { place = place })

-- behind a word in the options of an attribute
abbrev pub attribute_option : OptionStage → Option Keyword → Reader → Step
attribute_option stage.Ordered k s = Ok (record s { place = at.AttributeEnd })
attribute_option stage.Named (Some (word.Carried t)) s = Ok (record s { place = at.AttributeOptions stage.Carried; attribute = option_map {T = Attribute} {U = Attribute} (λ a. record a { transport = t }) s.attribute })
attribute_option o (Some (word.Ordered r)) s = Ok (record s { place = at.AttributeOptions stage.Ordered; attribute = option_map {T = Attribute} {U = Attribute} (λ a. record a { order = r }) s.attribute })
attribute_option o k s = Err kind.UnknownKeyword

-- behind a word in the options of an interaction class
abbrev pub class_option : OptionStage → Option Keyword → Reader → Step
class_option stage.Ordered k s = Ok (with_class_declared s)
class_option stage.Named (Some (word.Carried t)) s = Ok (record s { place = at.ClassOptions stage.Carried; class = option_map {T = InteractionClass} {U = InteractionClass} (λ k. record k { transport = t }) s.class })
class_option o (Some (word.Ordered r)) s = Ok (record s { place = at.ClassOptions stage.Ordered; class = option_map {T = InteractionClass} {U = InteractionClass} (λ k. record k { order = r }) s.class })
class_option o k s = Err kind.UnknownKeyword

abbrev pub after_word_at : Place → Reader → List ℕ → Step
after_word_at at.Start s w = Err kind.ExpectedOpen
after_word_at (at.Head h) s w = with_place (place_behind_keyword h s.depth (keyword_of w)) s
after_word_at (at.Name n) s w = after_name n s w
after_word_at (at.Between l) s w = Err kind.ExpectedOpen
after_word_at at.LabelEnd s w = Err kind.ExpectedClose
after_word_at (at.AttributeOptions o) s w = attribute_option o (keyword_of w) s
after_word_at at.AttributeEnd s w = Err kind.ExpectedClose
after_word_at (at.ClassOptions o) s w = class_option o (keyword_of w) s
after_word_at at.ParameterEnd s w = Err kind.ExpectedClose
after_word_at (at.Ignored i d) s w = Ok s
after_word_at at.Done s w = Err kind.TrailingText

unfoldable pub after_word : Reader → List ℕ → Step
after_word s w = after_word_at s.place s w

-- Behind a quoted name.
abbrev pub after_quoted_at : Place → Reader → List ℕ → Step
after_quoted_at at.Start s n = Err kind.ExpectedOpen
after_quoted_at (at.Head h) s n = Err kind.UnknownKeyword
after_quoted_at (at.Name what) s n = after_name what s n
after_quoted_at (at.Between l) s n = Err kind.ExpectedOpen
after_quoted_at at.LabelEnd s n = Err kind.ExpectedClose
after_quoted_at (at.AttributeOptions stage.Ordered) s n = Ok (record s { place = at.AttributeEnd })
after_quoted_at (at.AttributeOptions o) s n = Err kind.ExpectedClose
after_quoted_at at.AttributeEnd s n = Err kind.ExpectedClose
after_quoted_at (at.ClassOptions stage.Ordered) s n = Ok (with_class_declared s)
after_quoted_at (at.ClassOptions o) s n = Err kind.ExpectedOpen
after_quoted_at at.ParameterEnd s n = Err kind.ExpectedClose
after_quoted_at (at.Ignored w d) s n = Ok s
after_quoted_at at.Done s n = Err kind.TrailingText

unfoldable pub after_quoted : Reader → List ℕ → Step
after_quoted s n = after_quoted_at s.place s n

-- behind any token; a token that is cut wrongly is a fault at every place
abbrev pub after_token : Reader → text.Token → Step
after_token s text.Open = after_open s
after_token s text.Close = after_close s
after_token s (text.Word w) = after_word s w
after_token s (text.Quoted n) = after_quoted s n
after_token s text.Bad = Err kind.BadByte
after_token s text.Unclosed = Err kind.UnexpectedEnd
after_token s text.End = Err kind.UnexpectedEnd

-- the text may end here
abbrev pub is_done : Place → Bool
is_done at.Done = true
is_done place = false

-- what reading a text gives: its catalogue, or its first fault
abbrev pub Outcome : Type 0
Outcome = Result CatalogueValue FedFault

-- the next token, and then what follows
abbrev pub outcome_after : ℕ → Step → (Reader → Outcome) → Outcome
outcome_after line (Ok s) later = later s
outcome_after line (Err k) later = Err (record { line = line; kind = k })

abbrev pub ending_of : ℕ → Reader → Outcome
ending_of line s = if is_done s.place then Ok s.catalogue else Err (record { line = line; kind = kind.UnexpectedEnd })

-- what reading gives from here on: each token in turn, up to the first fault or the end
unfoldable pub reading : Reader → List Lexed → Outcome
reading s [] = Err (record { line = 0; kind = kind.UnexpectedEnd })
reading s (t ∷ ts) = if is_end t.token then ending_of t.line s else outcome_after t.line (after_token s t.token) (λ s'. reading s' ts)

-- before the first token
abbrev pub start : Reader
start = record { place = at.Start; depth = 0; lineage = []; attribute = None; class = None; catalogue = empty_catalogue }

-- what reading a text of at most 1,048,576 bytes gives; a longer one is too large, before all else
unfoldable pub reading_of : List ℕ → Outcome
reading_of text = if nat_lt max_fed_file (length text) then Err (record { line = 1; kind = kind.TooLarge }) else reading start (tokens text)

-- an answer is what reading gives, unless memory ran out
abbrev pub IsFirstFault : ℕ → FedFaultKind → Outcome → Type 0
IsFirstFault line kind.OutOfMemory read = Unit {0}
IsFirstFault line k read = read ≡ Err (record { line = line; kind = k })

abbrev pub ReadsAs : Result CatalogueValue FedFault → Outcome → Type 0
ReadsAs (Ok c) read = read ≡ Ok c
ReadsAs (Err e) read = IsFirstFault e.line e.kind read

-- what is left behind all tokens, or the first fault
abbrev pub Takes : Result ℕ FedFault → Outcome → Reader → Type 0
Takes (Ok line) read new = read ≡ ending_of line new
Takes (Err e) read new = IsFirstFault e.line e.kind read

-- How a catalogue is listed
use Rattle.std.specs.Prelude.{◌≡◌, ℕ, ◌+◌, ◌<◌, ◌≤◌, length, get_or, ◌==◌, Bool, true, false, List, [], ◌++◌, Option, Result, Ok, Err, codes, decimal, take, if◌then◌else◌}
use Rattle.std.specs.List.{flat_map, enumerate_from}
use Rattle.std.specs.Io.KnownBytes.{Appends}
use Rattle.hla_catalogue.specs.declared.declared.Attribute.{Attribute}
use Rattle.hla_catalogue.specs.declared.declared.InteractionClass.{InteractionClass}
use Rattle.hla_catalogue.specs.declared.declared.ObjectClass.{ObjectClass}
use Rattle.hla_catalogue.specs.declared.declared.Order.{Order}
use Rattle.hla_catalogue.specs.declared.declared.Order.TheVariants as order
use Rattle.hla_catalogue.specs.declared.declared.Parameter.{Parameter}
use Rattle.hla_catalogue.specs.declared.declared.Transport.{Transport}
use Rattle.hla_catalogue.specs.declared.declared.Transport.TheVariants as transport
use Rattle.hla_fed_file.specs.Grammar.{Describes}
use Rattle.hla_fed_file.specs.Reading as reading
use Rattle.hla_catalogue.specs.CatalogueValue.{CatalogueValue}
use Rattle.hla_transcript.specs.declared.listing.ListFault.{ListFault}
use Rattle.hla_transcript.specs.declared.listing.ListFault.TheVariants as stop

abbrev pub transport_text : Transport → List ℕ
transport_text transport.Reliable = codes "reliable"
transport_text transport.BestEffort = codes "best_effort"

abbrev pub order_text : Order → List ℕ
order_text order.Receive = codes "receive"
order_text order.Timestamp = codes "timestamp"

-- the texts of items, each with its number; numbers count from 1
abbrev pub numbered_texts : {X : Type 0} → (ℕ → X → List ℕ) → List X → List ℕ
numbered_texts text xs = flat_map (λ p. text p.0 p.1) (enumerate_from 1 xs)

-- so many texts, and all are empty
pub record AreEmpty (count : ℕ) (texts : List (List ℕ)) : Type 0 where
  pub many : length texts ≡ count
  pub empty : (k : ℕ) → get_or texts k [] ≡ []

-- at each place a text grows by what the place is given
pub record EachGrows (given : ℕ → List ℕ) (old new : List (List ℕ)) : Type 0 where
  pub many : length new ≡ length old
  pub grows : (k : ℕ) → k < length old → get_or new k [] ≡ get_or old k [] ++ given k

-- at the number of each class, the texts of its own items
pub record AreOwn {X : Type 0} (own : ℕ → ℕ → X → List ℕ) (classes : ℕ) (xs : List X) (texts : List (List ℕ)) : Type 0 where
  pub many : length texts ≡ classes + 1
  pub whole : (class : ℕ) → class ≤ classes → get_or texts class [] ≡ numbered_texts (own class) xs

-- the line of an attribute
abbrev pub attribute_text : ℕ → Attribute → List ℕ
attribute_text n a = codes "attribute " ++ decimal n ++ codes " " ++ a.name ++ codes " " ++ transport_text a.transport ++ codes " " ++ order_text a.order ++ codes "\n"

-- the line of a parameter
abbrev pub parameter_text : ℕ → Parameter → List ℕ
parameter_text n p = codes "parameter " ++ decimal n ++ codes " " ++ p.name ++ codes "\n"

-- an attribute's line, where the class declares it itself
abbrev pub own_attribute_text : ℕ → ℕ → Attribute → List ℕ
own_attribute_text class n a = if a.class == class then attribute_text n a else []

-- a parameter's line, where the class declares it itself
abbrev pub own_parameter_text : ℕ → ℕ → Parameter → List ℕ
own_parameter_text class n p = if p.class == class then parameter_text n p else []

-- the line of an object class
abbrev pub object_line : ℕ → ObjectClass → List ℕ
object_line n k = codes "object " ++ decimal n ++ codes " " ++ k.path ++ codes "\n"

-- the line of an interaction class
abbrev pub interaction_line : ℕ → InteractionClass → List ℕ
interaction_line n k = codes "interaction " ++ decimal n ++ codes " " ++ k.path ++ codes " " ++ transport_text k.transport ++ codes " " ++ order_text k.order ++ codes "\n"

-- an object class: its line, and those of its own attributes
abbrev pub object_text : List Attribute → ℕ → ObjectClass → List ℕ
object_text attributes n k = object_line n k ++ numbered_texts (own_attribute_text n) attributes

-- an interaction class: its line, and those of its own parameters
abbrev pub interaction_text : List Parameter → ℕ → InteractionClass → List ℕ
interaction_text parameters n k = interaction_line n k ++ numbered_texts (own_parameter_text n) parameters

-- the object classes in the order of their numbers, and then the interaction classes
abbrev pub listing : CatalogueValue → List ℕ
listing c = numbered_texts (object_text c.attributes) c.object_classes ++ numbered_texts (interaction_text c.parameters) c.interaction_classes

-- the text describes a catalogue, and what was written is its listing
abbrev pub IsListed : List ℕ → Option (List ℕ) → Option (List ℕ) → Type 0
IsListed fed old new = (c : CatalogueValue) × Describes fed c × Appends old new (listing c)

-- the same, but only a beginning was written
abbrev pub IsListedInPart : List ℕ → Option (List ℕ) → Option (List ℕ) → Type 0
IsListedInPart fed old new = (c : CatalogueValue) × Describes fed c × ((n : ℕ) × Appends old new (take n (listing c)))

-- why nothing was listed to its end; a text at fault prints nothing
abbrev pub StopsListing : List ℕ → Option (List ℕ) → Option (List ℕ) → ListFault → Type 0
StopsListing fed old new (stop.Fed e) = reading.ReadsAs (Err e) (reading.reading_of fed) × Appends old new []
StopsListing fed old new stop.Write = IsListedInPart fed old new
StopsListing fed old new stop.Memory = ((c : CatalogueValue) × Describes fed c) × Appends old new []

-- a write of the listing failed
abbrev pub is_failed_listing : ListFault → Bool
is_failed_listing (stop.Fed e) = false
is_failed_listing stop.Write = true
is_failed_listing stop.Memory = false

abbrev pub is_unwritten : {X : Type 0} → Result X ListFault → Bool
is_unwritten (Ok x) = false
is_unwritten (Err e) = is_failed_listing e

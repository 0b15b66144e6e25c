-- What a catalogue holds, in the order of the numbers
pub mod CatalogueValue
-- Looking up classes, attributes and parameters (HLA 1.3, support services)
pub mod Lookup
-- Names and their numbers, in the order in which they came
pub mod Names
-- Where names are declared, in the order of the numbers
pub mod Groups
-- What the indexes of a catalogue hold
pub mod Indexes
-- What a declaration adds to a catalogue. Numbers count up from 1, in the order of the text; the lineage is the classes around a place, innermost first
pub mod Declaring

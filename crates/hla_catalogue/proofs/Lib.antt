-- Names and their numbers
pub mod NameLemmas
-- Where names are declared
pub mod GroupLemmas
-- The items of a list by number, after a change
pub mod ItemLemmas

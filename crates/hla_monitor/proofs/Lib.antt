-- What is proved of the counts
pub mod Counting
-- Beginnings of one list
pub mod Beginnings
-- The step that adds a record
pub mod Adding

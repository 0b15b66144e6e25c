-- The words of a line
pub mod Words
-- Readings that may fail, and what a function answers that may also run out of memory
pub mod Reading
-- The words that scripts know
pub mod Vocabulary
-- What a script says, line by line, with the first fault
pub mod Script
-- The names of a script's faults
pub mod FaultName

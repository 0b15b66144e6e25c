-- What the words of a command line ask for
pub mod Words
-- Why they ask for nothing
pub mod Refusals

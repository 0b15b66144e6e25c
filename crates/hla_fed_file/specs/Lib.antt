-- The names of faults, and how they are printed
pub mod Fault
-- The tokens of a FED text, each with its line
pub mod Lexical
-- Tokens of the code as tokens of the text
pub mod Tokens
-- Bytes in front that pass a test, several at a time
pub mod Spans
-- The words with a meaning, whatever their case
pub mod Keywords
-- Reading a FED text token by token: the first fault, or what the text declares
pub mod Reading
-- The grammar of FED files, and what a file declares
pub mod Grammar

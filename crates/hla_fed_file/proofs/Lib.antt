-- Where tokens end, what a keyword spells, and one more token
pub mod Lexical
-- What is in the grammar is read
pub mod Forward
-- What is read is in the grammar
pub mod Backward

-- A word, a comment and a quoted name end where their bytes end
pub mod Lexing
-- A run of bytes is as long as its lanes say
pub mod SpanLemmas
-- A word that is the keyword spells it
pub mod SpellingLemmas
-- One more token
pub mod ReadingLemmas
-- Tokens stand on the lines of their text
pub mod LineLemmas

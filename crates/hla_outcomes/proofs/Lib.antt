-- Texts of lines, one after another
pub mod TextLemmas
-- Which lines take an ambassador
pub mod JoinLemmas

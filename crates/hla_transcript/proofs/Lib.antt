-- One more write
pub mod WriteLemmas
-- One more item of a list
pub mod ListLemmas

-- The table that rows are read as, and what a change of the rows does to it
mod RowLemmas
-- What a binary search among the rows finds
mod SearchLemmas
-- Where a table has nothing, for the next message
pub mod FreeLemmas

-- The least bound of rows, step by step
mod RowLemmas
-- The tables after a change of the rows that they are read from
mod PeerLemmas

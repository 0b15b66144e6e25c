-- The points that rows are read as, after a change of the rows
mod PointLemmas

-- The least bound of some rows
pub mod Rows
-- What a component knows of its peers, as tables by their numbers
pub mod Peers

-- What is read of a table of orders, after a change
pub mod OrderLemmas

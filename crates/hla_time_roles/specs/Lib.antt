-- The row that the fields of a federate's time hold
pub mod Held

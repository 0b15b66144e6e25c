-- The record of a step in its place
pub mod Written
-- How a record keeps what the lock keeps
pub mod Kept

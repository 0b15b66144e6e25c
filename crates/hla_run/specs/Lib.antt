-- What is told of the lines of federates, by the records of the history
pub mod Recorded
-- The whole history of a run: what the infrastructure itself did, line by line, and who did the rest
pub mod Accounted

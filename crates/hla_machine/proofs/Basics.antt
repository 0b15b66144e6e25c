-- Where a step is not refused no test applies
pub mod Tests
-- A bag of copies by key
pub mod Bags
-- What the row of a federate keeps
pub mod Rows
-- What a grant rests on, by whether the federate is constrained and whether it flushes
pub mod GrantCases

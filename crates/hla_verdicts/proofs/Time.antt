-- What tests of a federate that becomes constrained, or ceases to be, tell
pub mod Constraints
-- What tests of a federate that asks to regulate tell
pub mod Regulations
-- What tests of a query tell
pub mod Queries

-- What is asked of a registry of objects, and what services do to it
pub mod Queries
-- How a registry keeps its objects
pub mod Entries

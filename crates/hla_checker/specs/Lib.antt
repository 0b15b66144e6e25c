-- What is kept of all executions, by name
pub mod Table
-- Why an execution is not created
pub mod Creating
-- Where a list of records ceases to be a run, and how that is printed
pub mod Faults
-- What services send
pub mod Sending
-- What a federate declares of a class by its number alone
pub mod Declaring
-- The discoveries of one owner's objects, or of all
pub mod Offering
-- Which calls change an order
pub mod Ordering

-- What waits for one federate, as a table by sender and serial
pub mod Bags
-- What an index of the messages that wait for one federate keeps
pub mod Indexes

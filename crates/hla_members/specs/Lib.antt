-- Wires from one federate, or to one
pub mod Wiring
-- How much the wires to members take without more memory
pub mod Rooms
-- What is noted of messages that may be retracted
pub mod Noting
-- The messages of an outbox
pub mod Outboxes
-- What is done with members and their wires
pub mod Members
-- Events that are put on wires, and are taken back where memory runs out
pub mod Putting
-- What services change of one component
pub mod Changes
-- What the joined federates are to be told of synchronization points
pub mod Telling

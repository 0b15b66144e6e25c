-- What is found is there
pub mod Finding
-- The wires to one member, after one of them changed
pub mod Wires
-- The room on wires, after one of them changed
pub mod Rooms
-- The tables of a list of members, after a change of the list
pub mod MemberTables
-- The greatest of what components say
pub mod Entries
-- What each federate learns of one that begins to regulate
pub mod Lowering
-- Messages put along the wires from one federate, or to one
pub mod Posting
-- Null messages put on the wires from one federate, one after another
pub mod Announcing
-- Who is told, and what is taken back of it
pub mod Tidings
-- The messages of an outbox, for each federate
pub mod Outboxes
-- Events that are put on wires, and are taken back
pub mod TakingBack

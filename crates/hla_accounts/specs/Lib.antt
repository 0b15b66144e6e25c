-- The central machine's state that accounts stand for
pub mod Accounts
-- The bounds of the central machine, as tests of accounts
pub mod Bounds
-- What a federate may be given at a tick, as tests of accounts
pub mod Ticks
-- What services and wires may answer, as tests of accounts
pub mod Calls
-- What services and callbacks do to the row of a federate
pub mod RowChanges
-- What federates are told of synchronization points
pub mod Notices
-- What a federate sends to each other, and what it is to discover, as lists by federate
pub mod Sendings

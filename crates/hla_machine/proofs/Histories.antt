-- The order of a federate's picks
pub mod Orders
-- Events of one sender with one stamp keep its order
pub mod Stamps
-- A grant answers a request
pub mod Asked
-- A grant leaves nothing behind
pub mod Grants
-- Numbers and names of objects are never given twice
pub mod Registrations
-- Discoveries tell what was registered
pub mod Discoveries
-- Each run is lawful
pub mod Lawful
-- Records of all executions, cut to one of them
pub mod Projections
-- Records of all executions are lawful, execution by execution
pub mod Histories

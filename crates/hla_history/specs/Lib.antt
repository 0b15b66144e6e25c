-- What the records of a history say of each federate's ambassador
pub mod Heard
-- The executions under the lock, their federates' ambassadors, and the history that leads to them
pub mod Hosts
-- One execution under the lock, as its code keeps it
pub mod Hosting
-- Whose ambassador stands at each federate
pub mod Tags
-- Of which form the answer of each step is, whatever the state
pub mod Forms
-- Creating and destroying executions, and the ambassadors that come back
pub mod Creating
-- A whole history, and each caller's part of it
pub mod Closing
-- The record of a step, as it is written into its place
pub mod Writing

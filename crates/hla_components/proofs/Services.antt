-- Synchronization points: registered, achieved and told
pub mod Telling
-- A federate joins
pub mod Joins
-- A federate resigns
pub mod Resigns
-- Declarations, sends, and what arrives
pub mod Steps
-- Discoveries: carried, given, and made
pub mod Discoveries
-- A federate registers an object
pub mod Registrations
-- Updates and deletions of objects
pub mod Updates
-- Requests, roles and announcements
pub mod TimeSteps
-- Enabling time regulation: the entry, and the step
pub mod Entries
-- Queries and look-ups
pub mod Queries
-- Retractions, and what waits among the controls
pub mod Retractions
-- A tick with nothing, a message in receive order, or a control
pub mod Ticks
-- A tick that enables regulation, gives a message in time-stamp order, or grants
pub mod Advances
-- What a tick and a message do to the state is what they do to one federate's component
pub mod Locals

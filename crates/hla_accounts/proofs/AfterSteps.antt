-- Accounts by number
pub mod Accounts
-- The state that accounts stand for, after one account changed
pub mod OneAccount
-- How often an event is in a list, after a change
pub mod Handles
-- How often retractions are under way and due, after one account changed
pub mod Counts
-- Discoveries that wait for one federate, after a change
pub mod Offers
-- What federates are to be told of synchronization points, after a change
pub mod Notices
-- The accounts and the open points after a point is registered or achieved, and where points close
pub mod Points
-- The accounts after a federate joins or leaves
pub mod Joins
-- The accounts after a message is sent or retracted
pub mod Sends

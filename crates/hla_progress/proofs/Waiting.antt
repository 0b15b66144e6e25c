-- How many callbacks are due, after messages are put and taken
pub mod Counts
-- What a tick picks up for who waits for nobody else
pub mod Picks
-- Each step brings the callback, or leaves the federate waiting with no more due
pub mod Steps
-- Lists of steps, and rounds
pub mod Lists

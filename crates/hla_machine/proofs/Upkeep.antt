-- What the state keeps, by the kinds of change
pub mod Keeps
-- Joining, resigning, sending and time management keep the law
pub mod Services
-- Each step keeps the law, and so does each run
pub mod Runs
-- Copies, sent events and retractions agree after each step
pub mod CentralInvariant
-- What a step does to each row
pub mod Turns
-- What comes into the bag at a step, and who joins
pub mod News
-- The numbers of each row stay within their limits
pub mod Numbers
-- Nothing is given to a federate in its past
pub mod Ahead

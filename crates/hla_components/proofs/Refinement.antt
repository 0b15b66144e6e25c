-- What each pick tells
pub mod Picks
-- What each step chooses
pub mod Choices
-- Each step, and whole lists of steps
pub mod Runs
-- Records of all executions
pub mod Executions
-- Epochs count enablings
pub mod Counts
-- What a list of steps leads to, and that what happens from there is lawful
pub mod LedTo

-- What each federate that waits is to be granted
pub mod Exists
-- Whose goal is the least
pub mod Least
-- The more is asked for, the more is due before it
pub mod Limits
-- That one is granted
pub mod Nobody

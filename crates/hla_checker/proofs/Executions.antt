-- Nobody has joined, and nothing is declared
pub mod NewExecution
-- Where an execution is, and which state a name means after a change
pub mod TablePlaces
-- What a creation and a destruction do to all executions
pub mod TableChanges
-- What tests of creations, destructions and steps tell
pub mod Acts
-- One more record of a run
pub mod Runs

-- Executions by name: a new one, where each is, and what an act does to all of them
pub mod Executions
-- To whom objects become known, and for whom their discovery waits
pub mod Objects
-- What services send: values by handle, which of them are shown, and how an update is cut
pub mod Sends
-- What tests of a joining, and of each kind of call, tell
pub mod Verdicts

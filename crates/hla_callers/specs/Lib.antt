-- What is seen of the callers of one run-time infrastructure
pub mod Callers
-- When all callers have come back, and whether their transcripts are the history's
pub mod Close
-- What lies under the lock: the history with its executions, and what monitors are shown of it
pub mod Locked
-- How a caller waits for the lock, by what steps are in vain
pub mod Waiting

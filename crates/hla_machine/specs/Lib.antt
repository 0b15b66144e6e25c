-- Who joined, declarations, objects, receivers
pub mod Directory
-- Its objects as a list by number: what contracts see of a registry
pub mod Registered
-- The state, and the bounds
pub mod Central
-- What a send does
pub mod Sends
-- With which fault each step is refused
pub mod Refusals
-- What a tick may give
pub mod Callbacks
-- What a step may answer, and the state after it
pub mod Machine
-- Runs, of one execution and of all executions by name
pub mod Runs
-- What is said of several moments of a run
pub mod History
-- That each object is discovered first, and once, and by the name under which it was registered
pub mod Discovered
-- What is told of synchronization points, and when
pub mod Synchronized
-- What the state keeps by itself
pub mod CentralInvariant
-- What every run keeps, in a federate's words
pub mod Laws
-- The same of the happenings of one run
pub mod Lawful
-- The services that request an advance, and which of them a grant answers
pub mod Advancing
-- When a federate is asked to take a message back
pub mod AskedBack
-- `==` of services tells them apart: a service at a time, since the search over all pairs of services is too long
pub mod Services
-- `==` of steps, outcomes, acts and records tells them apart, part by part
pub mod Steps
-- What records of all executions say of one of them
pub mod Projection
-- What all records keep, execution by execution
pub mod Histories

-- Who is told of an event waits for it
pub mod Sending
-- What becomes of a copy in time-stamp order
pub mod Fates
-- What is known of retractions
pub mod Retractions
-- Each message of a call is sent to each federate that receives it, and to no other
pub mod Addressing
-- What is on its way to a federate stays so until it is settled
pub mod Reaching
-- What is kept of a message, its copy and the requests to take it back, and what may become of that
pub mod Standing
-- What a step that asks nobody to take a message back does to what is kept of it
pub mod Unasked
-- Who is asked to take a message back, and why
pub mod Requests
-- Who is given a message, and how often
pub mod Deliveries
-- In which order the messages of a call go
pub mod Ordering

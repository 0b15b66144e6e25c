-- What is kept of a message that may be retracted
pub mod SentEvents
-- The messages of one federate that may be retracted, as a table by serial
pub mod SentRows

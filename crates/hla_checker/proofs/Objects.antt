-- What a federate is to discover, object by object
pub mod FoundObjects
-- To whom a new object becomes known, and for whom its discovery waits, federate by federate
pub mod NewObjects

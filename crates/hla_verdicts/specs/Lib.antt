-- What a test tells of a record
pub mod Verdicts
-- What is kept of one execution, and the central machine's state that it stands for
pub mod Kept
-- What is in answers
pub mod Answers
-- What tests of accounts alone tell
pub mod Accounted
-- The services of time management that change no more than a row
pub mod RowServices
-- Queries of a federate's times
pub mod Queries
-- What callbacks tell of synchronization points
pub mod Notices
-- Which calls and callbacks a test is for
pub mod Kinds
-- What calls of directory services choose and answer, and what is told of them
pub mod Calls

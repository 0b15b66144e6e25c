-- Tests of all that waits are tests of the keys in a range of the index
pub mod Queries
-- Where no stamp lies below a time, all that waits passes a test
pub mod Stamps
-- Tests of accounts decide the bounds of the central machine
pub mod Bounds
-- The next discovery of one federate's objects
pub mod NextOffers
-- Tests of accounts decide what a federate may be given at a tick
pub mod Ticks
-- Tests of accounts decide what services and wires may answer
pub mod Calls
-- The greatest bar and the wakes, step by step
pub mod Entries
-- What refusals read of all accounts, of a row, and of a stamp
pub mod Refusals

-- What holds of each element of a list
pub mod Basics
-- Queues, wires, and where each copy is
pub mod Wiring
-- What each change of the state keeps: time, epochs, bounds, objects
pub mod Upkeep
-- Each kind of step: it keeps the invariant and is the machine's
pub mod Services
-- Each step and each list of steps is a run of the machine
pub mod Refinement
-- The examples, by computation
pub mod Computed
-- Each object is discovered first, and once
pub mod Discovered

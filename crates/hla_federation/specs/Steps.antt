-- What a service puts on the wires
pub mod Sending
-- Updates as their receivers are shown them
pub mod Reflecting
-- The discoveries of a new object
pub mod Discovering
-- The components that the parts stand for, and how a step may end
pub mod State
-- Which steps may be refused for want of memory
pub mod Memory
-- Who was told of synchronization points
pub mod Synchronizing
-- What a federation keeps, and lists of steps
pub mod Soundness
-- One step, answered in its own form
pub mod Answering

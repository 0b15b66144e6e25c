-- Queues of events: by key, and in receive order
pub mod Queues
-- What waits among the controls
pub mod Controls
-- What contracts see of one federate's component
pub mod LocalValue
-- What it picks up at a tick
pub mod Picking
-- What it makes of messages that come
pub mod Arriving
-- What it promises, and where a newcomer among the regulators may enter
pub mod Promising
-- What it is to be told of synchronization points
pub mod Telling

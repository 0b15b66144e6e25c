-- Rows, queues, what is sent and what arrives
pub mod Times
-- Enabling and disabling time regulation, and retractions
pub mod Epochs
-- What a component's stale bound says of the central state
pub mod Bounds
-- Discoveries come before what is said of their objects
pub mod Objects
-- Members, objects and subscriptions
pub mod Directories
-- Events that move from key order to receive order
pub mod Demotions

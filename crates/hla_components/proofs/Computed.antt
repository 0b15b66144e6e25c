-- Declarations, objects and receive order
pub mod Objects
-- Bounds, advances and queues
pub mod Time
-- Roles that change, the floor, and retraction
pub mod Roles
-- Synchronization points
pub mod Points

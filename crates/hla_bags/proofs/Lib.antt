-- What waits for one federate: the bag, where each message stands, the line, and bounds of the stamps
pub mod Bags
-- The index of what waits for one federate: its keys, and its upkeep
pub mod Indexes

-- The order of keys, and that of names
pub mod Keys
-- What an index keeps after a change
pub mod Upkeep
-- What a bag keeps of its index and its tail after a change
pub mod Indexing
-- What holds of each message that waits holds of each key of the index
pub mod Ranges

-- Laws of queues
pub mod Queues
-- The order of keys
pub mod Keys
-- What lies on a wire, after messages are put and taken
pub mod Wires
-- What a wire carries, after messages are put on it
pub mod Carries
-- Where the copies of messages are, after each change
pub mod Copies
-- What the bag is, after each change
pub mod Bags

-- Lists of events in which no sender and serial comes twice: what an insertion and a removal leave to be found
pub mod EventLemmas
-- Lists of events in order: their parts, an insertion into one of them, and the stamps
pub mod OrderLemmas
-- Finding and removing an event by its place, and the least stamp step by step
pub mod QueueLemmas
-- Finding and removing an event in parts of a list
pub mod RemovalLemmas
-- The place at which a search by a test ends, and an insertion there into events that are in order
pub mod PlaceLemmas
-- A queue in order begins with the events that move
pub mod MovingLemmas

-- Lists of events: finding, putting and removing one, their order, and those that move
pub mod Events
-- The stamps of events by name
pub mod ByName
-- Blocks of events under their separators, and the queue that they make
pub mod UnderSeparators

-- Finding an event by its key: it is in the last part of a list that does not come after the key
pub mod KeyLemmas
-- The order of keys, and the search for a block by its separator
pub mod SeparatorLemmas
-- Blocks of events under their separators, and the list that they make
pub mod JoinedLemmas
-- What an insertion into a block, a removal from one, and its split leave of the blocks
pub mod PutLemmas
-- A block that is split: the order of its halves, and the blocks then
pub mod SplitLemmas
-- Blocks in a slab, at the places that separators have: what is there after a block comes, changes or goes
pub mod PlacesLemmas
-- Going through blocks from the least on: the event at a place, how many are below a bound, and their handles
pub mod StepLemmas
-- How the first block, the later ones and the count of a queue follow the list of its events
pub mod KeptLemmas

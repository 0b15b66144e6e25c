-- The stamps by name: what is at each name after an insertion and a removal
pub mod StampLemmas
-- Notes with serials that rise: one that comes, one that goes, and the sweeping out of those without a stamp
pub mod RisingLemmas
-- Notes of which some are of events that were passed
pub mod PassedLemmas
-- The stamps by name: of all senders' notes, of the others, and of both
pub mod NamesLemmas

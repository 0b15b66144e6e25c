-- The entries of a list after a change
pub mod EntryLemmas
-- The tables after a change of the lists that they are read from
pub mod TableLemmas
-- Who receives: what callers may rely on, and how the list of receivers grows
pub mod ReceiverLemmas
-- A federate that has not joined declares nothing
pub mod Bounds
-- Sets of subscribers after a change
pub mod SubscriberLemmas
-- The lists and the sets are whole after each change
pub mod WholeLemmas

-- One more member that a resignation has passed over
pub mod MemberLemmas
-- One more name that is looked up
pub mod AskLemmas
-- What declares nothing, and is no resignation, is asked of objects, messages or time
pub mod CallLemmas

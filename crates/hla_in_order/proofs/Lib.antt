-- Which requests take an ambassador
pub mod AskLemmas
-- What one more record makes of the callers of a script
pub mod StandLemmas
-- What the act of a caller adds
pub mod TurnLemmas
-- What the functions that do the lines one after another lead to
pub mod LeadLemmas
-- How lines end in order that do not end well
pub mod StopLemmas

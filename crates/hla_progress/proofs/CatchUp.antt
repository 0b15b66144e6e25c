-- What announcements leave announced
pub mod Announced
-- What carries leave on the wires
pub mod Carried
-- Wires on which null messages alone are
pub mod Nulls
-- Once nothing is on its way what waits is all that there is
pub mod Arrived
-- What a tick of a federate that waits picks up
pub mod Aims
-- After the carries of a round everyone knows what the others promised
pub mod Heard
-- The first round, and the rounds after it
pub mod FirstRound
-- One that is to be constrained
pub mod Constraining

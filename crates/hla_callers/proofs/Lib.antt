-- What each call does
pub mod Calls
-- As many callers as were handed out
pub mod Counting
-- A history that has as many records as all transcripts has no others
pub mod Whole
-- What the ambassador has heard that comes out at a resignation
pub mod Known
-- Records that replay are a run of the central machine
pub mod RunLaws
-- and tell each federate of each object in turn
pub mod TurnLaws

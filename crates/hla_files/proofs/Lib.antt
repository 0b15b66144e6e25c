-- Cutting one more line off
pub mod PartLemmas
-- A line that is told, and bytes that are kept
pub mod EndLemmas
-- What is read of a file that was just opened
pub mod TaskLemmas
-- Records that are a run never differ from it, and what was found is told
pub mod CheckLemmas

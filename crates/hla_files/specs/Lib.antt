-- Two files in one input
pub mod Parts
-- Readers and writers that keep in mind whether they failed
pub mod Streams
-- A FED file and a script, read by their names
pub mod Texts
-- How playing, checking and listing end, and the lines that tell why one stopped
pub mod Program

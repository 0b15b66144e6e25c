-- How answers, callbacks and faults are printed
pub mod Printed
-- How a catalogue is listed
pub mod Listed
-- Readers and writers that keep in mind whether they failed
pub mod Watching

-- A message's copies, one federate after another
pub mod Messages
-- To whom the retraction of a message goes, one federate after another
pub mod Retractions

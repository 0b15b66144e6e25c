-- What tests of a step tell, by how it ended
pub mod Outcomes
-- What tests of a carry or a call tell
pub mod Calls
-- What tests of a call tell, whatever the service
pub mod Services
-- What is told of a call that chooses nothing, whatever the service
pub mod Endings
-- What tests of a retraction tell
pub mod Retractions

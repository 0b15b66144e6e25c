-- Who joins by the lines of a script
pub mod Joining
-- What a run of a script writes
pub mod Running

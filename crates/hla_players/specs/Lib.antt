-- Who joins by the lines of a script
pub mod Joining
-- What a run of a script writes
pub mod Running
-- What a line has a federate of a script do
pub mod Deeds
-- What a monitor reads beside a run
pub mod Watching

-- What tests of a tick tell
pub mod Ticks
-- What tests of a message that is given tell
pub mod Messages
-- What tests of a discovery tell
pub mod Discoveries
-- What tests of what is told of synchronization points tell
pub mod Notices

-- What tests of a step tell: by how it ended, of a carry, and of a call
pub mod Steps
-- What tests of a tick tell, and of what is picked up
pub mod Picks
-- What tests of roles and of queries tell
pub mod Time

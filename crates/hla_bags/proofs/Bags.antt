-- What a bag has after a change
pub mod Contents
-- Where a message stands, and what a bag has after a change at its place
pub mod Places
-- What stands behind the gap of a line after a change
pub mod Lines
-- Lower bounds of the stamps of what waits, after a change
pub mod Stamps

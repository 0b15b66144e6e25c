-- What the lines of a script do behind the lock, one after another on one thread
pub mod InOrder
-- What is seen of the callers of a script behind some records
pub mod Players
-- What the functions that do the lines one after another say of each other
pub mod Turns

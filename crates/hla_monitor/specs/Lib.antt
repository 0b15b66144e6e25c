-- What a monitor counts
pub mod Counts
-- The rule of the history, and what its steps tell
pub mod Written
-- What is seen of the board
pub mod Posted

-- Records that the next-state function made
pub mod Following
-- What the lines of a script do
pub mod Playing
-- The execution named `play`, and the history that leads to it
pub mod Keeping

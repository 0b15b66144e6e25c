-- Lists of discoveries, and those that are made
pub mod Lists
-- What the components' states say of copies and discoveries
pub mod Told
-- What is discovered, after each kind of change
pub mod Changes
-- After each step
pub mod Steps
-- Over lists of steps
pub mod Runs
-- Over histories
pub mod Histories

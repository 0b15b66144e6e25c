-- Refusals, bags, rows, and what a grant rests on
pub mod Basics
-- What each step keeps, does to each row and brings into the bag
pub mod Upkeep
-- What becomes of a copy: for whom it lies in the bag, until when, and how often it is given
pub mod Copies
-- What becomes of synchronization points, and what is told of them
pub mod Points
-- Of several moments of a run: picks, grants and registrations, and all laws together
pub mod Histories

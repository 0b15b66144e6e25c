-- Open points by label
pub mod Lists
-- What a step does to points, to who is joined and to what there is to be told
pub mod Turns
-- What the state keeps of points
pub mod Kept
-- What becomes due, and what is told
pub mod Dues
-- What a step does to the marks of a point, and who has achieved one that closes
pub mod Marks
-- What marks and notices go back to, over a run
pub mod Reached
-- No point stays open that all who are joined have achieved
pub mod Awaited
-- Whoever was not told of an open point is to be told of it
pub mod Waiting

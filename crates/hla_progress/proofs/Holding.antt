-- Whose goal stays above its bound is not granted
pub mod Denied
-- Two requests of width 0 hold each other, and who waits for both
pub mod TwoZeros
-- Who may still send below a goal holds it
pub mod Bounds

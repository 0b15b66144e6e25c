-- What steps do to the controls of a federate
pub mod Controls
-- When a point closes, and that each member is told so
pub mod Closing

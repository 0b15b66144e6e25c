-- The open synchronization points, and what a federate is told of them
pub mod Points
-- The open points as the code keeps them
pub mod OpenPoints

-- The place of an execution, and what its name means
pub mod Places
-- How a creation and a destruction change the executions
pub mod Creations

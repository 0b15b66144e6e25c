-- What a step does, and how it answers
pub mod Steps
-- What the ambassadors have heard, and the ears that hold them
pub mod Heard
-- What a record keeps and where it stands
pub mod Records
-- Where an execution is found, and how it is created and destroyed
pub mod Executions

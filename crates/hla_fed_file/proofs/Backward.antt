-- What is read is in the grammar: one token back, and ignored lists
pub mod BackSteps
-- What is read is in the grammar: attributes and object classes
pub mod BackObjects
-- What is read is in the grammar: parameters and interaction classes
pub mod BackInteractions
-- What is read is in the grammar
pub mod Sound

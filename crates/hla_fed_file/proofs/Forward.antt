-- What is in the grammar is read: one symbol after the other, and ignored lists
pub mod ReadSteps
-- What is in the grammar is read: attributes and object classes
pub mod ReadObjects
-- What is in the grammar is read: parameters and interaction classes
pub mod ReadInteractions
-- What is in the grammar is read
pub mod Described

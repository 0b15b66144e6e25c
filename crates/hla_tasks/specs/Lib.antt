-- What is to be done, with the files by their names
pub mod Tasks

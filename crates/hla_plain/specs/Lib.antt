-- Values of attributes and parameters as heads and bytes
pub mod Values
-- What crosses of a callback and of what a carry took
pub mod Telling
-- What stands for a number
pub mod Words
-- Faults of FED files
pub mod Faults

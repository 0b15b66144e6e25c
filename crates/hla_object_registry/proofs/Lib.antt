-- Lists as tables by number, counted from 1
pub mod Items
-- Tests of the numbers below a bound
pub mod Numbers
-- The tables that a registry's list stands for, after a change of the list
pub mod Changes
-- The objects of a registry's entries
pub mod EntryLemmas
-- Names of objects
pub mod NameLemmas
-- What holds of every registry: numbers begin with 1, and nothing is said of numbers that were not given out
pub mod Unregistered
-- A registry's words are those of a directory that has its tables
pub mod Directories
-- Each object of a registry has an owner, after each change
pub mod Owners

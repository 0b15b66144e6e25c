-- What a wire's messages make of a bound
pub mod Bounds
-- Rows, messages and epochs
pub mod Changes
-- Federates that join and resign
pub mod Members
-- Federates are numbered from 1
pub mod Numbers
-- Each step and each list of steps
pub mod Steps
-- What a component knows of itself, and of the number 0
pub mod Own
-- Nothing waits before the first pick
pub mod Firsts
-- What waits first at or below the bound is not retracted
pub mod Live

-- What one ear's change does to the tables of what is heard and of whose it is
pub mod Ears
-- How a step of an execution keeps its ears
pub mod Hosting
-- How a joining and a resigning change the ears
pub mod Seats
-- What a record makes of what the ambassadors have heard
pub mod Ambassadors

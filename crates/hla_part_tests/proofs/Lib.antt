-- Nothing waits in time-stamp order, or one message does
pub mod Waiting

-- Each kind of step of the code is the next-state function's
pub mod Steps

-- What a call of a session does
pub mod Calls

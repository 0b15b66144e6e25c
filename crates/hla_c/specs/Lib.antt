-- What a sealed box owns
pub mod Held
-- Codes of the interface's own
pub mod Codes
-- What a call does to what its handle stands for
pub mod Calls
-- Opening and closing a handle
pub mod Opening

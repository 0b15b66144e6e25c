-- Which federates have joined, by what the records say
pub mod Members
-- What a line asks of the execution, or the fault with which it is answered where it makes no step
pub mod Requests

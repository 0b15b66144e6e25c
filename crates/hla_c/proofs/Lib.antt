-- A box in the C library's heap
mod AsBox
-- A step of a session, and a service with values
mod Serving

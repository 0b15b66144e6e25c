-- What lies on a wire, kind by kind
pub mod Wires
-- What a federate may promise
pub mod Promise

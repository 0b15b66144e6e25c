-- What contracts see of a federation
pub mod FederationValue
-- How a step may end, and what it puts on wires
pub mod Steps

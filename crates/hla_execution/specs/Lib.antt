-- What contracts see of a member, and all of them as tables
pub mod MemberValue
-- What contracts see of a federation
pub mod FederationValue
-- The components and wires that this stands for
pub mod StateOf

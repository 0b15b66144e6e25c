-- What contracts see of a floor
pub mod FloorValue

-- What holds of each element of a list, and the order of serials
pub mod Each

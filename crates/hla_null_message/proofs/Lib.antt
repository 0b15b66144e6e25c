-- What is put on a wire
pub mod Wires

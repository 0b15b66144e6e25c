-- Orders that were changed, by number
pub mod Orders

-- What couriers do
pub mod Exchanges

-- What couriers do
pub use Rattle.hla_interface.specs.Exchanges.{IsExchange, IsExchangeAct}

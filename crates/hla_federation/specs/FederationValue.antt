-- What contracts see of a federation
pub use Rattle.hla_execution.specs.FederationValue.{FederationValue}

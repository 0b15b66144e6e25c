-- Who joins by the lines of a script
pub use Rattle.hla_outcomes.specs.Joining.{joins_by, joins, joins_read, script_joins, step_joins, request_joins}

-- What the federation's step makes of a session's call
pub mod Forms

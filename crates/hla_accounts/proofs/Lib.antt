-- The accounts, and the state that they stand for, after one of them changed
pub mod AfterSteps
-- What goes to each federate, one federate after another
pub mod Sendings
-- What tests of accounts decide, and what refusals read of accounts
pub mod Tests

-- What records lead to
pub mod KeepLemmas
-- What a line adds
pub mod PlayLemmas
-- A play that was broken off
pub mod BreakLemmas

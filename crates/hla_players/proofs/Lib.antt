-- What a line has a federate of a script do
pub mod DeedLemmas

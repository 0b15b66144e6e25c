-- What clap's matches and errors say of the words
pub mod WordLemmas
-- Words of a plain form ask clap for the same
pub mod PlainLemmas

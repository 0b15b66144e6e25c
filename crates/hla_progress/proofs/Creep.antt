-- What a promise is at least, once the bound has risen
pub mod Promising
-- What a whole round leaves
pub mod OneRound
-- Two rounds, and many
pub mod TwoRounds
-- Who waits is granted
pub mod Granted
-- Who is to be constrained is
pub mod Constrained

-- Where words begin and end
pub mod WordLemmas
-- One more line
pub mod LineLemmas
-- One more pair
pub mod PairLemmas
-- The number that decimal digits say
pub mod NumberLemmas
-- The bytes of lines
pub mod PlainLemmas

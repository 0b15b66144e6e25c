-- What tests of a joining tell
pub mod Joins
-- What tests of a look-up tell
pub mod LookUps
-- What tests of a declaration tell
pub mod Declarations
-- What tests of a subscription of an object class tell
pub mod Subscriptions
-- What tests of a registration tell
pub mod Registrations
-- What tests of services that send messages tell
pub mod Sends
-- What tests of a deletion and of a resignation tell
pub mod Deletions
-- What tests of a change of an order tell
pub mod Orderings
-- What tests of a synchronization point tell
pub mod Points

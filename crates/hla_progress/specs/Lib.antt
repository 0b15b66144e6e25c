-- What is known of a peer once all that lies on its wire has come, and what a row has raised: kept beside the components' invariant
pub mod Promises
-- Rounds of announcing, carrying and ticking
pub mod Rounds
-- Who waits for nobody else, and what may come before its callback
pub mod AtOnce
-- What the machine's own bound lets a federate have, rounds give it
pub mod CatchingUp
-- Where others are slow, by how much each two rounds bring it on
pub mod Creeping
-- No federation locks up whose regulators all advance, and who is granted next
pub mod GettingOn
-- Worked examples of rounds
pub mod Examples
-- Two requests that hold each other hold others too
pub mod Holding
-- What ticks bring of synchronization points, and when a point closes
pub mod Synchronizing

-- Each step keeps what is known of peers once all has come, and what rows have raised
pub mod Keeping
-- What waits for nobody else comes at once
pub mod Waiting
-- What the machine's own bound lets a federate have, rounds give it
pub mod CatchUp
-- What steps of rounds change and what they keep
pub mod Moving
-- Where others are slow, by how much each two rounds bring it on
pub mod Creep
-- No federation locks up whose regulators all advance
pub mod GettingOn
-- The examples, by computation
pub mod Computed
-- Two requests that hold each other hold others too
pub mod Holding
-- Synchronization points close once all have ticked and answered, and each member is told so
pub mod Telling

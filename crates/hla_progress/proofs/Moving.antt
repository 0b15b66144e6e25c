-- What a step of rounds does to the machine's state
pub mod Rounds
-- Nobody may send less than before
pub mod Outs
-- What a federate waits for stays the same
pub mod Targets
-- States to which steps of the components led
pub mod Led
-- Who may still send below a time may do so after them
pub mod Back

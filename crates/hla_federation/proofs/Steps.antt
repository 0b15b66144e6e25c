-- Values by rising handle
pub mod Pairs
-- Which values of an update are shown
pub mod Showing
-- The parts stay of one execution
pub mod Wholes
-- What is not refused is done
pub mod Doing
-- Publications, subscriptions and arrivals
pub mod Declaring
-- The parts after one component changed
pub mod Changing
-- Null messages, and what each learns of who begins to regulate
pub mod Announcing
-- Retractions, and the parts after one was sent
pub mod Retracting
-- What a step chooses
pub mod Choosing
-- What is sent beside null messages
pub mod NoNulls
-- The messages of a service, and the state after them
pub mod SendingAll
-- What is noted of the messages of a service
pub mod Noting
-- What is put into an outbox for each receiver
pub mod Addressing
-- To whom a message was sent
pub mod Receiving
-- Interactions and updates on the wires, one receiver after another
pub mod Posting
-- The parts after messages were sent
pub mod Sent
-- How many messages an update makes, and its refusals
pub mod Updates
-- With which stamps a service is refused
pub mod Stamps
-- What a federate is to discover once it subscribes a class
pub mod FoundObjects
-- After an object class was subscribed
pub mod Subscribing
-- The parts after an object was registered
pub mod NewObjects
-- The state after an object was registered
pub mod Registering
-- The state after federates are to be told of synchronization points, and after points opened or closed
pub mod Notifying
-- Resigning
pub mod Resigning
-- Each step of the code is a step of the machine
pub mod Sound
-- A call that ends as its step does that step
pub mod Answering
-- Lists of steps are runs of the machine
pub mod Running
-- How a step would end
pub mod Foreseeing
-- Whose order may change has a number
pub mod Ordering

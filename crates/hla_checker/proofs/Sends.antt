-- Putting a pair among pairs by rising handle
pub mod PairPlaces
-- Values of which all are shown
pub mod ShownValues
-- What an update is cut into, and with which fault a service that sends is refused
pub mod SendingTests
-- What is sent by an update, one message after another
pub mod Updates

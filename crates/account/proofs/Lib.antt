-- What a port holds, what of it the parts of an event keep, and what its lines show.
pub mod Held
pub mod Kept
pub mod Written
pub mod Lines
pub mod Moved
pub mod Stepped
-- What each event is to the port, and the account of one event.
pub mod Turns
pub mod Writing
pub mod Reading
pub mod Events
pub mod Single
pub mod Pins
-- Events one after the other, and cut.
pub mod Over
pub mod Standing
pub mod Cut
-- Where an account begins.
pub mod Begins
-- Every byte leaves once.
pub mod Every

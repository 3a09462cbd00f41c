pub mod Set
pub mod Record
pub mod Channels
pub mod Interrupts
pub mod Clocks
pub mod Sound
pub mod Events

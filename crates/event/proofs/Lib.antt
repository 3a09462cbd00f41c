pub mod Accepted
pub mod Resets
pub mod Refused
pub mod Knowing

pub mod Along
pub mod Looks
pub mod Acts
pub mod Comes

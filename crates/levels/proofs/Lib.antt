pub mod Plain
pub mod Catching

pub mod Plain
pub mod Reading
pub mod Thirteen
pub mod Own
pub mod Walked
pub mod Agreeing

pub mod Layout
pub mod Written
pub mod Taken

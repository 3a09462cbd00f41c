pub mod Outputs
pub mod Looks

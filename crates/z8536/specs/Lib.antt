pub mod Z8536
pub mod Runs

pub mod Divided
pub mod Runs
pub mod Used

pub mod Chips
pub mod Vetting

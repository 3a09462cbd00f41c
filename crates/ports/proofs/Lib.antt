pub mod Masks
pub mod Priority

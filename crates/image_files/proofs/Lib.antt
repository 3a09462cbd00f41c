pub mod Names
pub mod Unsaved

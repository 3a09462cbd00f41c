pub mod Spelled
pub mod Kept
pub mod Answers
pub mod Written

pub mod Tests
pub mod Digits
pub mod Words
pub mod Cutting
pub mod Saying
pub mod Whole
pub mod Back
pub mod Examples

pub mod Wait
pub mod Measure
pub mod Rise
pub mod Kept

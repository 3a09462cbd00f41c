pub mod Inside
pub mod Placed
pub mod Ranges

pub mod Parts
pub mod Still

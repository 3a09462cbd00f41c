pub mod Signs
pub mod Byte
pub mod Buffer
pub mod Iterate
pub mod Runs

pub mod Halves
pub mod Reaches
pub mod First

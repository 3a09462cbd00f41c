pub mod Typing
pub mod Keeping
pub mod Printed
pub mod OneDigit
pub mod Writing

pub mod Telling
pub mod Laws
pub mod Feeding
pub mod Staying

pub mod Promise
pub mod OneAnswer
pub mod Verdicts
pub mod InPlace

pub mod Stage
pub mod Chase

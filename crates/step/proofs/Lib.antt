pub mod Apart
pub mod CaughtUp
pub mod Nothing

-- A stretch of clocks at once, the leaps, from one moment of a run to a later one, and the run of a device's pair.
pub mod Stretch
pub mod Leaping
pub mod Moments
pub mod Bridge

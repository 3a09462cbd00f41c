-- Clocks: a channel by division, and the four channels apart.
pub mod Divided
pub mod Apart
pub mod Interval
-- A sound record: what soundness says part by part, and what keeps each channel sound.
pub mod Parts
pub mod Kept
-- Which events are refused, with which code.
pub mod Accepted
pub mod Refusals
pub mod Ignored
-- Every event and every end of service keeps a sound record sound, and its shape.
pub mod Soundness
pub mod Runs
-- Clocks: demand 3.
pub mod Demand3
-- The acknowledge and the end of service.
pub mod Service
-- Short traces.
pub mod Examples

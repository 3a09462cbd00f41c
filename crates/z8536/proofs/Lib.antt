-- A sound record, part by part; the ways of an event, and what each does; its codes.
pub mod Parts
pub mod Access
pub mod Codes
-- Every event and every list of events keeps a sound record sound; what becomes of the pointer; demand 3.
pub mod Soundness
pub mod Pointer
pub mod Runs
pub mod Demand3

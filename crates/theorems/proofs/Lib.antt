-- A sound record: the tests for equality, what soundness says part by part, and what keeps each part sound.
pub mod Equal
pub mod Same
pub mod Parts
pub mod Clauses
pub mod Addresses
pub mod CounterLaws
pub mod SourceLaws
pub mod PortLaws
pub mod Effective
pub mod PatternLaws
pub mod TransferLaws
pub mod Stores
-- What an event does: at a source, to what a port holds, in a step, as a write, without a step.
pub mod Fates
pub mod Moves
pub mod Steps
pub mod Writes
pub mod Stepless
-- Which events are refused, with which code, and which numbers are ignored.
pub mod Codes
pub mod Refusals
pub mod Ignored
-- Every event and every list of events keeps a sound record sound, and its shape.
pub mod Accepted
pub mod Soundness
pub mod Shapes
pub mod Traces
-- The stored lines: true after every event, and looked at by no clock.
pub mod Blind
pub mod Stored
-- What a port with handshake shows.
pub mod Shown
-- Clocks: reports, no byte that moves (and what R leaves), and demand 3.
pub mod ReportLaws
pub mod Frame
pub mod Reports
pub mod Bytes
pub mod Demand3
-- The version, which every event keeps.
pub mod Versions
-- Clocks: a free-running counter by division, and a counter that goes alone, with its source.
pub mod Countdown
pub mod Lines
pub mod Timer
pub mod Losses
pub mod Sources
pub mod Division
pub mod Alone
-- Clocks: what moves in T, part by part (W-210).
pub mod Ticking
pub mod Caught
pub mod Moving
pub mod Formula
pub mod Nights
-- Clocks: many at once, as whole rounds; what is seen of a counter, and a counter in a stretch.
pub mod Rounds
pub mod Alike
pub mod Lowered
-- What a step does not see; what it leaves of a port, and a pattern with priority (W-211).
pub mod Apart
pub mod Sides
pub mod Priority
pub mod Ioe

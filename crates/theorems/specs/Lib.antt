-- Events: the numbers that each kind uses, and lists of them.
pub mod Used
pub mod Traces
-- Clocks: T's as one, reports, a free-running counter, a counter that goes alone, what moves, the plain records, a stretch.
pub mod Ticks
pub mod Reports
pub mod Free
pub mod Alone
pub mod Moving
pub mod Plain
pub mod Stretch

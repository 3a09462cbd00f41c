-- A row by its places; the first that requests.
pub mod Along
pub mod After
pub mod First
-- The theorems that a reader looks for by name.
pub mod Refusals
pub mod Soundness
pub mod Runs
pub mod Itself
pub mod Whom
pub mod Fall
pub mod Alike
pub mod Desk
pub mod Unnamed
-- T.
pub mod Ticks
pub mod Each
pub mod Demand3

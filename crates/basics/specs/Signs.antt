-- A sign of the definitions that the library has not: a range. A choice and a test of two numbers are the library's.
-- Assumes nothing.
use Rattle.std.specs.Prelude.{ℕ, Bool, ◌&&◌, leb}

-- low to high, both included
abbrev pub within : ℕ → ℕ → ℕ → Bool
within low high a = leb low a && leb a high

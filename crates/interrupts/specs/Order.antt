-- One of the five sources, or none.
-- Assumes nothing.
use Rattle.std.specs.Prelude.{ℕ, Option, Some, None, ◌==◌, if◌then◌else◌}

-- where `rules/Interrupts` has "5 if none", the code has none
abbrev pub of_five : ℕ → Option ℕ
of_five k = if k == 5 then None else Some k

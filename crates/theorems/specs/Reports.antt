-- Reports: what is asked of one that holds its numbers for each counter, and how large they are.
-- Assumes nothing.
use Rattle.std.specs.Prelude.{ℕ, ◌≤◌, ◌≡◌, get_or, length}
use Rattle.rules.specs.declared.Report.{Report}

-- a number for each of the three counters, of both kinds
pub record Whole (r : Report) : Type 0 where
  pub terminals : length r.terminals ≡ 3
  pub lost : length r.lost ≡ 3

-- none of its numbers is above n
pub record Fits (n : ℕ) (r : Report) : Type 0 where
  pub terminals : (i : ℕ) → get_or r.terminals i 0 ≤ n
  pub lost : (i : ℕ) → get_or r.lost i 0 ≤ n

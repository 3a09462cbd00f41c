-- A run by leaps, in search of its rounds: what its record says, and when one follows another.
-- Assumes nothing.
use Rattle.std.specs.Prelude.{ℕ, ◌+◌, ◌≤◌, ◌<◌, ◌≡◌, true}
use Rattle.basics.specs.Iterate.{iterate}
use Rattle.theorems.specs.declared.Pair.{Pair}
use Rattle.theorems.specs.Stretch.{lower_of}
use Rattle.linked.specs.declared.stage.Stage.{Stage}
use Rattle.linked.specs.declared.chase.Leap.{Leap}
use Rattle.linked.specs.declared.chase.Chase.{Chase}
use Rattle.linked.specs.declared.chase.Moves.{Moves}
use Rattle.linked.specs.Stage.{paired_on}

-- the pair k timer clocks later, where m tells which of the counters move
unfoldable pub lowered_of : ℕ → Moves → Pair → Pair
lowered_of k m x =
    record { one = lower_of k m.one x.one; two = lower_of k m.two x.two; terminals = x.terminals; side = x.side }

-- with another number of terminals
unfoldable pub with_terminals : Pair → ℕ → Pair
with_terminals x n = record { one = x.one; two = x.two; terminals = n; side = x.side }

-- the counters that move stand at n or more
pub record Above (n : ℕ) (m : Moves) (x : Pair) : Type 0 where
  pub one : m.one ≡ true → n ≤ x.one.count
  pub two : m.two ≡ true → n ≤ x.two.count

-- r is one clock or more from x, and at most those that are left
pub record Leaps (f : Stage) (x : Pair) (left : ℕ) (r : Leap) : Type 0 where
  pub pair : r.pair ≡ iterate r.clocks (paired_on f) x
  pub some : 0 < r.clocks
  pub within : r.clocks ≤ left

-- where a run ends: the clocks that are left, from the present
unfoldable pub end_of : Stage → Chase → Pair
end_of f c = iterate c.left (paired_on f) c.now

-- the present is `since` clocks after the anchor, and the terminals have room for the clocks that are left
pub record Holds (f : Stage) (c : Chase) : Type 0 where
  pub present : c.now ≡ iterate c.since (paired_on f) c.anchor
  pub time : c.since + c.left ≤ 4294967295
  pub room : c.now.terminals + c.left ≤ 4294967295

-- r is the same run, later or as late
pub record Follows (f : Stage) (c r : Chase) : Type 0 where
  pub end : end_of f r ≡ end_of f c
  pub holds : Holds f r
  pub left : r.left ≤ c.left

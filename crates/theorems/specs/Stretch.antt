-- A counter in a stretch of clocks that only take one from its count, each.
-- Assumes nothing.
use Rattle.std.specs.Prelude.{ℕ, ◌-◌, Bool, if◌then◌else◌}
use Rattle.rules.specs.declared.Counter.{Counter}
use Rattle.rules.specs.With.{with_count}

-- a counter k counts later, none of them terminal, if it moves; its pulse is low before and after
unfoldable pub lower_of : ℕ → Bool → Counter → Counter
lower_of k moves c = if moves then with_count c (c.count - k) else c

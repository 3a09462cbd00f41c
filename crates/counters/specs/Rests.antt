-- A counter's turn in a step that leaves the counter as it is.
-- Assumes nothing.
use Rattle.std.specs.Prelude.{Bool, not, ◌&&◌}
use Rattle.rules.specs.declared.Counter.{Counter}
use Rattle.rules.specs.declared.Reach.{Reach}
use Rattle.rules.specs.Counters.{takes, clocks}

-- no trigger that "is taken when the counter is enabled, and CIP = 0 or retrigger = 1", and no "count clock with GCB, gate line and
-- link gate open" (W-205)
unfoldable pub rests_by : Bool → Reach → Counter → Bool
rests_by enabled reach c = not (reach.trigger && takes enabled c) && not (clocks enabled reach c)

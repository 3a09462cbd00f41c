-- A step on its parts: a counter with its source, and a port's PMF with its source.
-- Assumes nothing.
use Rattle.std.specs.Prelude.{ℕ, ◌/◌, ◌%◌, Bool, true, if◌then◌else◌, ◌==◌}
use Rattle.rules.specs.declared.Device.{Device}
use Rattle.rules.specs.declared.Counted.{Counted}
use Rattle.rules.specs.declared.Source.{Source}
use Rattle.rules.specs.declared.Pattern.{Pattern}
use Rattle.rules.specs.declared.Link.{Link}
use Rattle.rules.specs.Record.{pattern_at, counter_at, source_at, of_counter}
use Rattle.rules.specs.Registers.{port_enabled, counter_enabled}
use Rattle.rules.specs.Counters.{reach_of, turn_of}
use Rattle.rules.specs.Patterns.{match_of, event_by, hides_by}
use Rattle.rules.specs.Interrupts.{fate_of, came, was_lost}
use Rattle.theorems.specs.declared.Side.{Side}
use Rattle.theorems.specs.Alone.{left_by, struck_by}
use Rattle.theorems.specs.Moving.{side_at}
use Rattle.counters.specs.declared.Inputs.{Inputs}
use Rattle.levels.specs.declared.Looks.{Looks}
use Rattle.step.specs.declared.Turn.{Turn}

-- the lines of counter i where the path values are known
abbrev pub lines_seen : Looks → ℕ → ℕ
lines_seen l i = if i == 0 then l.b / 16 else if i == 1 then l.b % 16 else l.c % 16

-- what comes to counter i with this link, where w saw its lines before the step and n sees them after (a)
abbrev pub inputs_in : Link → Bool → Looks → Looks → ℕ → Inputs
inputs_in link timer w n i = record { link = link; timer = timer; were = lines_seen w i; are = lines_seen n i }

-- what a counter's turn leaves, with its source
unfoldable pub turn_by : Counted → Source → Turn
turn_by r s =
    let f = fate_of true r.terminal s in
    record { counter = r.counter; source = left_by f s; came = came f; lost = was_lost f }

unfoldable pub turn_at : Link → Bool → ℕ → ℕ → ℕ → Device → Turn
turn_at link timer were are i d =
    turn_by (turn_of d.version (counter_enabled d i) (reach_of (counter_at d i) link timer were are) (counter_at d i)) (source_at d (of_counter i))

-- (f): what the turn of a port's pattern leaves of the port's side
unfoldable pub pattern_by : Bool → Pattern → ℕ → ℕ → Side → Side
pattern_by enabled q before after x =
    let m = match_of enabled q before after in
    record { pmf = m; source = struck_by (hides_by q) (event_by q x.pmf m) x.source }

unfoldable pub pattern_after : ℕ → ℕ → ℕ → Device → Side
pattern_after p before after d = pattern_by (port_enabled d p) (pattern_at d p) before after (side_at d p)

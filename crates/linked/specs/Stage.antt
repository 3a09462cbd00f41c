-- What stays in a run of CT1, CT2 and Port B's side, and one timer clock over it.
-- Assumes nothing.
use Rattle.std.specs.Prelude.{ℕ, ◌+◌, ◌*◌, Bool, true, false, [], ◌∷◌, get_or}
use Rattle.basics.specs.Byte.{num}
use Rattle.rules.specs.declared.Device.{Device}
use Rattle.rules.specs.declared.Counter.{Counter}
use Rattle.rules.specs.declared.Counted.{Counted}
use Rattle.rules.specs.declared.Link.{Link}
use Rattle.rules.specs.With.{with_count, with_cip, with_half, with_pulse}
use Rattle.rules.specs.Record.{pattern_at, counter_at}
use Rattle.rules.specs.Registers.{port_enabled, counter_enabled, lc}
use Rattle.rules.specs.Counters.{output_of, unlinked, link_of, reach_of, turn_of}
use Rattle.rules.specs.Patterns.{match_of, event_by, hides_by}
use Rattle.rules.specs.Step.{lines_at}
use Rattle.theorems.specs.declared.Side.{Side}
use Rattle.theorems.specs.declared.Pair.{Pair}
use Rattle.theorems.specs.Alone.{struck_by}
use Rattle.theorems.specs.Moving.{seen_with}
use Rattle.linked.specs.declared.stage.Stage.{Stage}

-- the counter c with its output at v, in either version and every mode
unfoldable pub showing : Bool → Counter → Counter
showing v c = with_pulse (with_half (with_cip (with_count c 1) v) v) v

-- what Port B sees with the outputs of CT1 and CT2 at a and b
unfoldable pub shown_with : Device → Bool → Bool → ℕ
shown_with d a b = seen_with d (showing a (counter_at d 0)) (showing b (counter_at d 1))

unfoldable pub stage_of : Device → Stage
stage_of d =
    record {
      version = d.version;
      lc = lc d;
      enabled = counter_enabled d 0 ∷ counter_enabled d 1 ∷ [];
      lines = lines_at d 0 ∷ lines_at d 1 ∷ [];
      watched = port_enabled d 1;
      pattern = pattern_at d 1;
      seen = shown_with d false false ∷ shown_with d false true ∷ shown_with d true false ∷ shown_with d true true ∷ [];
    }

-- the turn of a counter c at place i, what LC makes of CT1's output, and what Port B sees with these counters
unfoldable pub turn_on : Stage → ℕ → Link → Counter → Counted
turn_on f i link c = turn_of f.version (get_or f.enabled i false) (reach_of c link true (get_or f.lines i 0) (get_or f.lines i 0)) c

unfoldable pub link_on : Stage → Counter → Counter → Link
link_on f before after = link_of f.lc (output_of f.version before) (output_of f.version after)

unfoldable pub seen_on : Stage → Counter → Counter → ℕ
seen_on f one two = get_or f.seen (2 * num (output_of f.version one) + num (output_of f.version two)) 0

unfoldable pub side_on : Stage → ℕ → ℕ → Side → Side
side_on f before after x =
    let m = match_of f.watched f.pattern before after in
    record { pmf = m; source = struck_by (hides_by f.pattern) (event_by f.pattern x.pmf m) x.source }

-- one timer clock
unfoldable pub paired_on : Stage → Pair → Pair
paired_on f x =
    let r = turn_on f 0 unlinked x.one in
    let s = turn_on f 1 (link_on f x.one r.counter) x.two in
    record {
      one = r.counter;
      two = s.counter;
      terminals = x.terminals + num s.terminal;
      side = side_on f (seen_on f x.one x.two) (seen_on f r.counter s.counter) x.side;
    }

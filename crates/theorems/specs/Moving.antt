-- Paper 02, W-210: what moves in T, part by part. In T no count, trigger or gate line moves and no byte, the catchers settle in the first
-- timer clock, and "a counter's output reaches another counter only by the link": so each counter with its source is a part of its own,
-- and each port's PMF with its source is a side of its own.
-- Assumes nothing.
use Rattle.std.specs.Prelude.{ℕ, ◌+◌, ◌%◌, ◌<◌, ◌≡◌, Bool, true, not, ◌&&◌, ◌||◌, [], ◌∷◌, if◌then◌else◌, ◌==◌}
use Rattle.basics.specs.Byte.{num}
use Rattle.rules.specs.declared.Device.{Device}
use Rattle.rules.specs.declared.Counter.{Counter}
use Rattle.rules.specs.declared.Counted.{Counted}
use Rattle.rules.specs.declared.Link.{Link}
use Rattle.rules.specs.declared.Ran.{Ran}
use Rattle.rules.specs.Record.{pattern_at, counter_at, source_at, of_port, of_counter}
use Rattle.rules.specs.With.{with_pmf, with_patterns, with_counters, with_sources, with_phase}
use Rattle.rules.specs.Registers.{port_enabled, counter_enabled, lc}
use Rattle.rules.specs.Counters.{output_enabled, output_of, unlinked, link_of, reach_of, clocks, turn_of}
use Rattle.rules.specs.PortData.{seen_at}
use Rattle.rules.specs.Patterns.{is_and, is_or, is_priority, match_of, event_by, hides_by}
use Rattle.rules.specs.Interrupts.{fate_of, came, was_lost}
use Rattle.rules.specs.Step.{lines_at, catchers}
use Rattle.theorems.specs.declared.Part.{Part}
use Rattle.theorems.specs.declared.Side.{Side}
use Rattle.theorems.specs.declared.Pair.{Pair}
use Rattle.theorems.specs.Free.{timer_clocks}
use Rattle.theorems.specs.Alone.{left_by, struck_by, placed_by, alone_after}

-- "Port A and the catchers settle in the first timer clock": the catchers have caught what there is to catch
abbrev pub Caught : Device → Type 0
Caught d = catchers d ≡ d

-- the counts and time constants are words
pub record Small (d : Device) : Type 0 where
  pub counts : (i : ℕ) → i < 3 → (counter_at d i).count < 65536
  pub constants : (i : ℕ) → i < 3 → (counter_at d i).constant < 65536

-- ---- the parts and sides, and the record that has them
pub record Moving : Type 0 where
  pub one : Part
  pub two : Part
  pub three : Part
  pub a : Side
  pub b : Side

-- those of a record, with no terminal so far
unfoldable pub part_at : Device → ℕ → Part
part_at d i = record { counter = counter_at d i; source = source_at d (of_counter i); terminals = 0; lost = 0 }

unfoldable pub side_at : Device → ℕ → Side
side_at d p = record { pmf = (pattern_at d p).pmf; source = source_at d (of_port p) }

unfoldable pub moving_of : Device → Moving
moving_of d = record { one = part_at d 0; two = part_at d 1; three = part_at d 2; a = side_at d 0; b = side_at d 1 }

-- "Order: CT3, A, CT2, B, CT1"
unfoldable pub with_moving : Device → Moving → Ran
with_moving d m =
    record {
      device =
          with_sources (with_counters (with_patterns d (with_pmf (pattern_at d 0) m.a.pmf ∷ with_pmf (pattern_at d 1) m.b.pmf ∷ []))
          (m.one.counter ∷ m.two.counter ∷ m.three.counter ∷ []))
          (m.three.source ∷ m.a.source ∷ m.two.source ∷ m.b.source ∷ m.one.source ∷ []);
      report = record {
        terminals = m.one.terminals ∷ m.two.terminals ∷ m.three.terminals ∷ [];
        lost = m.one.lost ∷ m.two.lost ∷ m.three.lost ∷ [];
      };
    }

-- ---- one timer clock
-- the turn of a counter c at place i: no line of it moves
unfoldable pub turn_in : Device → ℕ → Link → Counter → Counted
turn_in d i link c = turn_of d.version (counter_enabled d i) (reach_of c link true (lines_at d i) (lines_at d i)) c

-- a part after what its counter's turn gave
unfoldable pub part_by : Counted → Part → Part
part_by r x =
    let f = fate_of true r.terminal x.source in
    record {
      counter = r.counter;
      source = left_by f x.source;
      terminals = x.terminals + num (came f);
      lost = x.lost + num (was_lost f);
    }

-- what LC makes of CT1's output, from the counter before the clock to the one after it
unfoldable pub link_by : Device → Counter → Counter → Link
link_by d before after = link_of (lc d) (output_of d.version before) (output_of d.version after)

-- a port's side after what its pattern saw before and after: "PMF is the last step's match."
unfoldable pub side_by : Device → ℕ → ℕ → ℕ → Side → Side
side_by d p before after x =
    let m = match_of (port_enabled d p) (pattern_at d p) before after in
    record { pmf = m; source = struck_by (hides_by (pattern_at d p)) (event_by (pattern_at d p) x.pmf m) x.source }

-- what Port B's pattern sees with these counters at CT1 and CT2
unfoldable pub seen_with : Device → Counter → Counter → ℕ
seen_with d one two = seen_at (with_counters d (one ∷ two ∷ counter_at d 2 ∷ [])) 1

unfoldable pub moved_by : Device → Moving → Moving
moved_by d m =
    let r = turn_in d 0 unlinked m.one.counter in
    let s = turn_in d 1 (link_by d m.one.counter r.counter) m.two.counter in
    record {
      one = part_by r m.one;
      two = part_by s m.two;
      three = part_by (turn_in d 2 unlinked m.three.counter) m.three;
      a = side_by d 0 (seen_at d 0) (seen_at d 0) m.a;
      b = side_by d 1 (seen_with d m.one.counter m.two.counter) (seen_with d r.counter s.counter) m.b;
    }

-- ---- CT1, CT2 and Port B's side alone: what goes by leaps and rounds
unfoldable pub pair_of : Device → Pair
pair_of d = record { one = counter_at d 0; two = counter_at d 1; terminals = 0; side = side_at d 1 }

unfoldable pub paired_by : Device → Pair → Pair
paired_by d x =
    let r = turn_in d 0 unlinked x.one in
    let s = turn_in d 1 (link_by d x.one r.counter) x.two in
    record {
      one = r.counter;
      two = s.counter;
      terminals = x.terminals + num s.terminal;
      side = side_by d 1 (seen_with d x.one x.two) (seen_with d r.counter s.counter) x.side;
    }

-- ---- what goes by division
-- whether timer clocks come to counter i, where no link reaches it
unfoldable pub comes_to : Device → ℕ → Bool
comes_to d i = clocks (counter_enabled d i) (reach_of (counter_at d i) unlinked true (lines_at d i) (lines_at d i)) (counter_at d i)

-- counter i after k timer clocks
unfoldable pub part_after : Device → ℕ → ℕ → Part
part_after d i k = alone_after d.version (comes_to d i) (counter_at d i) (source_at d (of_counter i)) k

-- port p's side: "PMF of a level pattern after T n: the level match if a timer clock happened, else kept; the first timer clock is a port
-- event if PMF was 0 and the level matches"
unfoldable pub side_after : Device → ℕ → ℕ → Side
side_after d p k = if k == 0 then side_at d p else side_by d p (seen_at d p) (seen_at d p) (side_at d p)

-- "no counter is linked", and no output of CT1 or CT2 is where a pattern of Port B could see it
unfoldable pub apart : Device → Bool
apart d =
    lc d == 0
    && (not (is_and (pattern_at d 1) || is_or (pattern_at d 1) || is_priority (pattern_at d 1)) || not (output_enabled (counter_at d 0) || output_enabled (counter_at d 1)))

-- where all go alone
unfoldable pub alones_after : Device → ℕ → Moving
alones_after d k =
    record { one = part_after d 0 k; two = part_after d 1 k; three = part_after d 2 k; a = side_after d 0 k; b = side_after d 1 k }

-- ---- T n
-- "PCLK flips a phase bit": the phase after n clocks
unfoldable pub phase_after : Device → ℕ → Bool
phase_after d n = (n + num d.phase) % 2 == 1

-- the run of n clocks that leaves these parts
unfoldable pub run_with : Device → ℕ → Moving → Ran
run_with d n m = record { device = with_phase (with_moving d m).device (phase_after d n); report = (with_moving d m).report }

unfoldable pub by_division : Device → ℕ → Ran
by_division d n = run_with d n (alones_after d (timer_clocks d n))

-- the parts where CT1, CT2 and Port B's side have come to x
unfoldable pub besides : Device → ℕ → Pair → Moving
besides d k x =
    record {
      one = part_after d 0 k;
      two = placed_by x.two (source_at d (of_counter 1)) x.terminals;
      three = part_after d 2 k;
      a = side_after d 0 k;
      b = x.side;
    }

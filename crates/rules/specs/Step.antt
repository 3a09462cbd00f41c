-- Paper 01, "Order inside one step", and the clock.
-- Assumes nothing.
use Rattle.std.specs.Prelude.{ℕ, ◌/◌, ◌%◌, Bool, true, false, [], ◌∷◌, if◌then◌else◌, ◌==◌}
use Rattle.rules.specs.declared.Device.{Device}
use Rattle.rules.specs.declared.Port.{Port}
use Rattle.rules.specs.declared.Link.{Link}
use Rattle.rules.specs.declared.Counted.{Counted}
use Rattle.rules.specs.declared.Turned.{Turned}
use Rattle.rules.specs.declared.Stepped.{Stepped}
use Rattle.rules.specs.declared.Ran.{Ran}
unfoldable pub use Rattle.basics.specs.Iterate.{iterate}
use Rattle.rules.specs.declared.Report.{Report}
use Rattle.rules.specs.With.{with_catcher, with_pmf, with_ports, with_pattern, with_counter, with_phase}
use Rattle.rules.specs.Record.{port_at, pattern_at, counter_at, source_at, of_port, of_counter}
use Rattle.rules.specs.Report.{no_report, reports_added, step_report}
use Rattle.rules.specs.Registers.{port_enabled, counter_enabled, lc, reset}
use Rattle.rules.specs.PortData.{caught_of, effective_at, path_at, seen_at}
use Rattle.rules.specs.Counters.{output_of, unlinked, link_of, reach_of, turn_of}
use Rattle.rules.specs.Patterns.{match_of, event_by, hides_by}
use Rattle.rules.specs.Interrupts.{fate_of, after_fate, came, was_lost}

-- "Lines: CT1 output, count, trigger, gate PB4-PB7; CT2 PB0-PB3; CT3 PC0-PC3. Inputs are path values without catchers":
-- the four lines of counter i, as D0 to D3
unfoldable pub lines_at : Device → ℕ → ℕ
lines_at d i = if i == 0 then path_at d 1 / 16 else if i == 1 then path_at d 1 % 16 else path_at d 2 % 16

-- a source to which an event comes, or does not
unfoldable pub event_at : Device → ℕ → Bool → Bool → Device
event_at d k hides happens = after_fate d k (fate_of hides happens (source_at d k))

-- what a counter's turn leaves: "One count of one counter now also says whether the terminal was taken, kept as the hidden
-- error, or lost" (paper 02, W-202), and its source is left by that
unfoldable pub turned : Device → ℕ → Counted → Turned
turned d i r =
    let f = fate_of true r.terminal (source_at d (of_counter i)) in
    record { device = after_fate (with_counter d i r.counter) (of_counter i) f; fate = f }

-- (b), (c), (d): the turn of counter i in the device d; "edges compare before the step with after (a)"
unfoldable pub counter_turn : Link → Bool → ℕ → ℕ → ℕ → Device → Turned
counter_turn link timer were are i d =
    turned d i (turn_of d.version (counter_enabled d i) (reach_of (counter_at d i) link timer were are) (counter_at d i))

-- (e): the catchers of port p, and of all
unfoldable pub caught_at : Device → ℕ → Port
caught_at d p = with_catcher (port_at d p) (caught_of (port_enabled d p) (effective_at d p) (path_at d p))

unfoldable pub catchers : Device → Device
catchers d = with_ports d (caught_at d 0 ∷ caught_at d 1 ∷ caught_at d 2 ∷ [])

-- (f): the pattern of port p. "PMF is the last step's match. No-match to match is a port event."
unfoldable pub matched_by : ℕ → Bool → Device → Device
matched_by p matches d =
    event_at (with_pattern d p (with_pmf (pattern_at d p) matches)) (of_port p) (hides_by (pattern_at d p)) (event_by (pattern_at d p) (pattern_at d p).pmf matches)

-- "edges compare before the step with after (e)"
unfoldable pub pattern_turn : ℕ → ℕ → Device → Device
pattern_turn p before d = matched_by p (match_of (port_enabled d p) (pattern_at d p) before (seen_at d p)) d

-- (e) and (f), with what A and B showed before the step
unfoldable pub settled : ℕ → ℕ → Device → Device
settled beforeA beforeB d = pattern_turn 1 beforeB (pattern_turn 0 beforeA (catchers d))

-- "A step is one accepted W, one P, or one timer clock: (a) the direct effect; (b) CT1; (c) CT2; (d) CT3; (e) catchers;
-- (f) patterns.": from the record before the step and the one after (a)
unfoldable pub step_of : Bool → Device → Device → Stepped
step_of timer d0 d1 =
    let b = counter_turn unlinked timer (lines_at d0 0) (lines_at d1 0) 0 d1 in
    let link = link_of (lc d1) (output_of d0.version (counter_at d0 0)) (output_of d1.version (counter_at b.device 0)) in
    let c = counter_turn link timer (lines_at d0 1) (lines_at d1 1) 1 b.device in
    let d = counter_turn unlinked timer (lines_at d0 2) (lines_at d1 2) 2 c.device in
    record {
      device = settled (seen_at d0 0) (seen_at d0 1) d.device;
      terminals = came b.fate ∷ came c.fate ∷ came d.fate ∷ [];
      lost = was_lost b.fate ∷ was_lost c.fate ∷ was_lost d.fate ∷ [];
    }

-- ---- the clock
-- a step's report added to the report so far
unfoldable pub reported : Report → Stepped → Ran
reported r s = record { device = s.device; report = reports_added r (step_report s) }

-- "PCLK flips a phase bit; each second clock, as phase returns to 0, is a timer clock." Under RESET "T changes nothing".
unfoldable pub clock_of : Ran → Ran
clock_of s =
    if reset s.device then s else
    if s.device.phase then reported s.report (step_of true s.device (with_phase s.device false)) else
    record { device = with_phase s.device true; report = s.report }

-- "T n: n PCLK clocks."
unfoldable pub ran_of : ℕ → Device → Ran
ran_of n d = iterate n clock_of (record { device = d; report = no_report })

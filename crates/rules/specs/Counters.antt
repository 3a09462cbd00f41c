-- Paper 01, "Counters": one rule for the three.
-- Assumes nothing.
use Rattle.std.specs.Prelude.{ℕ, ◌+◌, ◌-◌, ◌%◌, Bool, true, false, not, ◌&&◌, ◌||◌, if◌then◌else◌, ◌==◌}
use Rattle.basics.specs.Byte.{bit, rises}
use Rattle.rules.specs.With.{with_count, with_frozen, with_rcc, with_gcb, with_cip, with_half, with_pulse}
use Rattle.rules.specs.declared.Counter.{Counter}
use Rattle.rules.specs.declared.Counted.{Counted}
use Rattle.rules.specs.declared.Link.{Link}
use Rattle.rules.specs.declared.Reach.{Reach}

-- "Counter modes D7 down: continuous, output, count input, trigger input, gate input enables, retrigger,
-- then 00 pulse, 01 one-shot, 10 square."
abbrev pub continuous : Counter → Bool
continuous c = bit c.mode 7

abbrev pub output_enabled : Counter → Bool
output_enabled c = bit c.mode 6

abbrev pub count_input : Counter → Bool
count_input c = bit c.mode 5

abbrev pub trigger_input : Counter → Bool
trigger_input c = bit c.mode 4

abbrev pub gate_input : Counter → Bool
gate_input c = bit c.mode 3

abbrev pub retrigger : Counter → Bool
retrigger c = bit c.mode 2

abbrev pub square : Counter → Bool
square c = c.mode % 4 == 2

-- "It is taken when the counter is enabled, and CIP = 0 or retrigger = 1"
unfoldable pub takes : Bool → Counter → Bool
takes enabled c = enabled && (not c.cip || retrigger c)

-- "count = time constant, CIP = 1, first half"; the pulse is high "until a triggered load"
unfoldable pub loaded : Counter → Counter
loaded c = with_pulse (with_half (with_cip (with_count c c.constant) true) false) false

-- "one less modulo 65,536, so time constant 0 means 65,536", over the modulus
abbrev pub less_one : ℕ → ℕ → ℕ
less_one modulus n = (n + (modulus - 1)) % modulus

-- "Reaching 0 is terminal: square in its first half reloads for the second; else continuous reloads in the first half;
-- else CIP = 0, first half, and count stays 0."
unfoldable pub terminal_of : Counter → Counter
terminal_of c =
    if square c && not c.half then with_half (with_count c c.constant) true else
    if continuous c then with_half (with_count c c.constant) false else
    with_half (with_cip (with_count c 0) false) false

-- "The count becomes one less modulo 65,536": one count, and whether it was terminal. Paper 02, W-205: the pulse is "high from a
-- terminal count until the counter's next count clock .. that isn't itself terminal", in version 2.
unfoldable pub count_of : ℕ → Counter → Counted
count_of version c =
    if less_one 65536 c.count == 0 then record { counter = with_pulse (terminal_of c) (version == 2); terminal = true }
    else record { counter = with_pulse (with_count c (less_one 65536 c.count)) false; terminal = false }

-- in version 1 "pulse = CIP and count 1"; in version 2 the pulse bit, "running or stopped"
unfoldable pub pulse_of : ℕ → Counter → Bool
pulse_of version c = if version == 1 then c.cip && c.count == 1 else c.pulse

-- "Output: .. one-shot = CIP; square = CIP and second half."
unfoldable pub output_of : ℕ → Counter → Bool
output_of version c =
    if c.mode % 4 == 0 then pulse_of version c else
    if c.mode % 4 == 1 then c.cip else
    c.cip && c.half

-- LC 00, and what reaches the counters 1 and 3: nothing of a link
abbrev pub unlinked : Link
unlinked = record { trigger = false; gate = true; only = false; count = false }

-- "LC 01: CT2 also needs CT1's output, after (b), to be 1. LC 10: its rise across the step triggers CT2.
-- LC 11: its rise is CT2's only count source."
unfoldable pub link_of : ℕ → Bool → Bool → Link
link_of lc before after =
    record {
      trigger = lc == 2 && rises before after;
      gate = not (lc == 1) || after;
      only = lc == 3;
      count = rises before after;
    }

-- What reaches a counter whose lines (D0 output, D1 count, D2 trigger, D3 gate) were and are these.
-- "A trigger is .. with trigger enabled a rise of its line." "the enabled gate line is 1, and either a timer clock
-- (count input 0) or a rise of the count line (1)"
unfoldable pub reach_of : Counter → Link → Bool → ℕ → ℕ → Reach
reach_of c link timer were are =
    record {
      trigger = (trigger_input c && rises (bit were 2) (bit are 2)) || link.trigger;
      gate = (not (gate_input c) || bit are 3) && link.gate;
      count = if link.only then link.count else if count_input c then rises (bit were 1) (bit are 1) else timer;
    }

-- W-205: a "count clock with GCB, gate line and link gate open"
unfoldable pub clocks : Bool → Reach → Counter → Bool
clocks enabled reach c = enabled && c.gcb && reach.gate && reach.count

-- what such a clock does: "A count happens when .. CIP = 1"; one that is stopped only ends its pulse
unfoldable pub clocked_by : ℕ → Counter → Counted
clocked_by version c = if c.cip then count_of version c else record { counter = with_pulse c false; terminal = false }

-- a counter's turn in a step; "A load replaces a decrement." "A count happens when enabled, .. GCB = 1, the enabled gate line is 1, and"
-- a count reaches it
unfoldable pub turn_of : ℕ → Bool → Reach → Counter → Counted
turn_of version enabled reach c =
    if reach.trigger && takes enabled c then record { counter = loaded c; terminal = false } else
    if clocks enabled reach c then clocked_by version c else
    record { counter = c; terminal = false }

-- ---- a write of a counter's command: "One write acts as command, GCB, RCC, trigger."
-- "Writing 1 to RCC when it is 0 freezes the count read at 10H-15H .. Writing RCC 0 does nothing."
unfoldable pub frozen_by : Bool → Counter → Counter
frozen_by v c = if v && not c.rcc then with_frozen (with_rcc c true) c.count else c

-- "A trigger is a written 1"
unfoldable pub triggered_by : Bool → Bool → Counter → Counter
triggered_by v enabled c = if v && takes enabled c then loaded c else c

-- GCB, RCC and trigger of the byte b
unfoldable pub commanded_by : Bool → ℕ → Counter → Counter
commanded_by enabled b c = triggered_by (bit b 1) enabled (frozen_by (bit b 3) (with_gcb c (bit b 2)))

-- "reading that low byte returns it, then RCC = 0"
unfoldable pub thawed : Counter → Counter
thawed c = with_frozen (with_rcc c false) 0

-- "the count read at 10H-15H"
unfoldable pub shown : Counter → ℕ
shown c = if c.rcc then c.frozen else c.count

-- "Clearing an enable clears CIP and half, and keeps the count."; the pulse is high "until .. a cleared enable"
unfoldable pub enabled_by : Bool → Counter → Counter
enabled_by v c = if v then c else with_pulse (with_half (with_cip c false) false) false

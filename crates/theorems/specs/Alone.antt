-- Paper 02, W-210: a counter that goes alone over k timer clocks, and its source, "from n by division". Where clocks come to it, paper 01's
-- division of a free-running counter tells how often a count that is always reloaded would be terminal; one that is not continuous stops
-- at its last terminal.
-- Assumes nothing.
use Rattle.std.specs.Prelude.{ℕ, ◌+◌, ◌-◌, ◌*◌, ◌%◌, Bool, true, false, not, ◌&&◌, ◌||◌, leb, if◌then◌else◌, ◌==◌}
use Rattle.basics.specs.Byte.{differs, num}
use Rattle.rules.specs.declared.Counter.{Counter}
use Rattle.rules.specs.declared.Source.{Source}
use Rattle.rules.specs.declared.Fate.{Fate}
use Rattle.rules.specs.declared.Fate.TheVariants.{Nothing, Taken, Kept, Lost}
use Rattle.rules.specs.With.{with_count, with_cip, with_half, with_pulse, with_ip, with_hidden}
use Rattle.rules.specs.Counters.{continuous, square, clocked_by}
use Rattle.rules.specs.Interrupts.{fate_of}
use Rattle.theorems.specs.declared.Part.{Part}
use Rattle.theorems.specs.Free.{full_of, terminals_after, count_after, lost_after}

-- ---- one timer clock at a counter to which clocks come, or do not: the counter, and its terminals so far
unfoldable pub ticked_by : ℕ → Bool → Counter × ℕ → Counter × ℕ
ticked_by version comes s =
    if comes then ((clocked_by version s.0).counter, s.1 + num (clocked_by version s.0).terminal) else s

-- ---- and k of them, by division
-- "Let c be its count and t its constant, 0 read as 65,536 in both."
abbrev pub full_count : Counter → ℕ
full_count c = full_of 65536 c.count

abbrev pub full_constant : Counter → ℕ
full_constant c = full_of 65536 c.constant

-- the terminals of k counts, if it is always reloaded
unfoldable pub reloads_in : Counter → ℕ → ℕ
reloads_in c k = terminals_after (full_count c) (full_constant c) k

-- "square in its first half reloads for the second; else continuous reloads in the first half; else CIP = 0": which terminal is the last
-- of a counter that is not continuous, and its clock
unfoldable pub last_terminal : Counter → ℕ
last_terminal c = if square c && not c.half then 2 else 1

unfoldable pub last_clock : Counter → ℕ
last_clock c = full_count c + (last_terminal c - 1) * full_constant c

-- whether it has stopped when it would have been reloaded n times
unfoldable pub stops_by : Counter → ℕ → Bool
stops_by c n = not (continuous c) && leb (last_terminal c) n

-- the half after n terminals: each of a square counter changes it, and of another leaves the first
unfoldable pub half_after : Counter → ℕ → Bool
half_after c n = if n == 0 then c.half else square c && differs c.half (n % 2 == 1)

-- whether clock k was terminal: k is c, or c and some times t
unfoldable pub terminal_at : Counter → ℕ → Bool
terminal_at c k = leb (full_count c) k && (k - full_count c) % full_constant c == 0

-- it runs on: "count t less the remainder of (k - c) by t"; in version 2 the pulse is high where the last clock was terminal
unfoldable pub running_after : ℕ → Counter → ℕ → Counter
running_after version c k =
    with_pulse (with_half (with_count c (count_after (full_count c) (full_constant c) k % 65536)) (half_after c (reloads_in c k)))
    (version == 2 && terminal_at c k)

-- it has stopped: "CIP = 0, first half, and count stays 0"; in version 2 the pulse is high until the clock after its last terminal
unfoldable pub stopped_after : ℕ → Counter → ℕ → Counter
stopped_after version c k = with_pulse (with_half (with_cip (with_count c 0) false) false) (version == 2 && k == last_clock c)

-- the counter after k timer clocks; a clock at one that does not run ends its pulse
unfoldable pub counter_after : ℕ → Bool → Counter → ℕ → Counter
counter_after version comes c k =
    if not comes || k == 0 then c else
    if not c.cip then with_pulse c false else
    if stops_by c (reloads_in c k) then stopped_after version c k else
    running_after version c k

-- and its terminals
unfoldable pub terminals_in : Bool → Counter → ℕ → ℕ
terminals_in comes c k =
    if not comes || not c.cip then 0 else
    if stops_by c (reloads_in c k) then last_terminal c else
    reloads_in c k

-- ---- its source
-- what an event leaves of its source, by its fate
unfoldable pub left_by : Fate → Source → Source
left_by Nothing s = s
left_by Taken s = with_ip s true
left_by Kept s = with_hidden s true
left_by Lost s = s

-- a source to which an event comes, or does not
unfoldable pub struck_by : Bool → Bool → Source → Source
struck_by hides happens s = left_by (fate_of hides happens s) s

-- after n terminals: "with IP = 0 sets IP. With IP = 1 and ERR = 0 it sets a hidden error", so a third changes nothing
unfoldable pub source_after : Source → ℕ → Source
source_after s n =
    if n == 0 then s else
    if n == 1 then struck_by true true s else
    struck_by true true (struck_by true true s)

-- ---- both: a counter after n terminals, with its source, which was s; and after k timer clocks
unfoldable pub placed_by : Counter → Source → ℕ → Part
placed_by c s n = record { counter = c; source = source_after s n; terminals = n; lost = lost_after s n }

unfoldable pub alone_after : ℕ → Bool → Counter → Source → ℕ → Part
alone_after version comes c s k = placed_by (counter_after version comes c k) s (terminals_in comes c k)

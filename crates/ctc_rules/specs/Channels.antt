-- docs/CTC.md, "Counting", "Clock", "Edges" and "Words": one channel.
-- Assumes nothing.
use Rattle.std.specs.Prelude.{ℕ, ◌+◌, ◌*◌, ◌/◌, ◌%◌, Bool, true, false, not, ◌&&◌, ◌||◌, if◌then◌else◌, ◌==◌}
use Rattle.basics.specs.Byte.{bit, differs, rises}
use Rattle.rules.specs.Counters.{less_one}
use Rattle.ctc_rules.specs.declared.Channel.{Channel}
use Rattle.ctc_rules.specs.declared.Zeroed.{Zeroed}
use Rattle.ctc_rules.specs.Set.{set_control, set_constant, set_count, set_prescaler, set_loaded, set_awaits, set_running, set_ip}
use Rattle.ctc_rules.specs.Record.{interrupt_on, counter_mode, by256, factor_of, rising_edge, by_trigger}

-- ---- counting
-- "A count takes the down-counter one down modulo 256, so constant 0 means 256. Reaching 0 is a zero count: the constant is loaded
-- again, and IP is set if D7 = 1."
unfoldable pub count_channel : Channel → Zeroed
count_channel c =
    if less_one 256 c.count == 0 then record { channel = set_ip (set_count c c.constant) (c.ip || interrupt_on c); zero = true }
    else record { channel = set_count c (less_one 256 c.count); zero = false }

-- ---- the clock
-- "A channel takes clocks while it runs in timer mode."
unfoldable pub timer_runs : Channel → Bool
timer_runs c = c.running && not (counter_mode c)

-- "A clock takes its prescaler one up; where that is the factor, it is 0 again and the channel counts."
unfoldable pub clock_channel : Channel → Zeroed
clock_channel c =
    if not (timer_runs c) then record { channel = c; zero = false } else
    if c.prescaler + 1 == factor_of c then count_channel (set_prescaler c 0) else
    record { channel = set_prescaler c (c.prescaler + 1); zero = false }

-- ---- edges
-- "A channel's start sets its prescaler to 0."
abbrev pub started_of : Channel → Channel
started_of c = set_prescaler (set_running c true) 0

-- "An active edge counts in a loaded channel in counter mode, and starts a loaded one in timer mode that does not run; else it does
-- nothing."
unfoldable pub edge_channel : Channel → Channel
edge_channel c =
    if not c.loaded then c else
    if counter_mode c then (count_channel c).channel else
    if c.running then c else
    started_of c

-- "The edge of its trigger level is active if the level rises with D4 = 1, or falls with D4 = 0."
unfoldable pub active_edge : Channel → Bool → Bool → Bool
active_edge c before after = if rising_edge c then rises before after else rises after before

unfoldable pub level_channel : Channel → Bool → Bool → Channel
level_channel c before after = if active_edge c before after then edge_channel c else c

-- ---- words
-- "A control word stores its D7-D3; with D2 = 1 the channel awaits a constant, with D2 = 0 it awaits none."
abbrev pub stored_word : Channel → ℕ → Channel
stored_word c b = set_awaits (set_control c (b / 8 * 8)) (bit b 2)

-- "D1 = 1 is the software reset: the channel stops and has no constant; count, IP and IUS stay."
abbrev pub soft_reset : Channel → Channel
soft_reset c = set_prescaler (set_running (set_loaded (set_constant c 0) false) false) 0

-- "With D1 = 0 it goes on: in counter mode it runs if it is loaded, with prescaler 0; in timer mode it runs if it ran, and its prescaler
-- is kept, modulo 16 where the factor is 16."
unfoldable pub goes_on : Channel → Channel
goes_on c =
    if counter_mode c then set_prescaler (set_running c c.loaded) 0 else
    if by256 c then c else
    set_prescaler c (c.prescaler % 16)

-- "Then, if D4 has changed, it takes an active edge."
unfoldable pub control_word : Channel → ℕ → Channel
control_word c b =
    if bit b 1 then soft_reset (stored_word c b) else
    if differs (bit b 4) (rising_edge c) then edge_channel (goes_on (stored_word c b)) else
    goes_on (stored_word c b)

-- "A constant is stored: the channel is loaded, and awaits none."
abbrev pub stored_constant : Channel → ℕ → Channel
stored_constant c b = set_awaits (set_loaded (set_constant c b) true) false

-- "A channel that runs counts on to 0 before it is loaded into the down-counter; in one that does not, it is loaded at once, and the channel
-- starts in counter mode, or with D3 = 0."
unfoldable pub constant_word : Channel → ℕ → Channel
constant_word c b =
    if c.running then stored_constant c b else
    if counter_mode c || not (by_trigger c) then started_of (set_count (stored_constant c b) b) else
    set_count (stored_constant c b) b

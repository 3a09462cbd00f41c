-- A channel over k counts and over n clocks, one by one and by division.
-- Assumes nothing.
use Rattle.std.specs.Prelude.{ℕ, ◌+◌, ◌/◌, ◌%◌, not, ◌&&◌, ◌||◌, if◌then◌else◌, ◌==◌}
use Rattle.basics.specs.Byte.{num}
use Rattle.theorems.specs.Free.{full_of, terminals_after, count_after}
use Rattle.ctc_rules.specs.declared.Channel.{Channel}
use Rattle.ctc_rules.specs.declared.ChannelRan.{ChannelRan}
use Rattle.ctc_rules.specs.Set.{set_count, set_prescaler, set_ip}
use Rattle.ctc_rules.specs.Record.{interrupt_on, factor_of}
use Rattle.ctc_rules.specs.Channels.{count_channel, timer_runs, clock_channel}

-- one count more of a channel, with its zero counts so far
unfoldable pub count_more : ChannelRan → ChannelRan
count_more s =
    record { channel = (count_channel s.channel).channel; zeros = s.zeros + num (count_channel s.channel).zero }

-- one clock more of a channel, with its zero counts so far
unfoldable pub tick_channel : ChannelRan → ChannelRan
tick_channel s =
    record { channel = (clock_channel s.channel).channel; zeros = s.zeros + num (clock_channel s.channel).zero }

-- a channel before any of them
abbrev pub unticked : Channel → ChannelRan
unticked c = record { channel = c; zeros = 0 }

-- how often a timer that runs counts in n clocks
unfoldable pub timer_counts : Channel → ℕ → ℕ
timer_counts c n = (c.prescaler + n) / factor_of c

-- its zero counts in k counts, and the down-counter after them, "0 read as" 256
unfoldable pub zeros_in : Channel → ℕ → ℕ
zeros_in c k = terminals_after (full_of 256 c.count) (full_of 256 c.constant) k

unfoldable pub down_after : Channel → ℕ → ℕ
down_after c k = count_after (full_of 256 c.count) (full_of 256 c.constant) k % 256

-- the channel after k counts
unfoldable pub counts_after : Channel → ℕ → ChannelRan
counts_after c k =
    record { channel = set_ip (set_count c (down_after c k)) (c.ip || (interrupt_on c && not (zeros_in c k == 0))); zeros = zeros_in c k }

-- the channel after n clocks with k counts
unfoldable pub timer_after : Channel → ℕ → ℕ → ChannelRan
timer_after c n k =
    record {
      channel = set_ip (set_count (set_prescaler c ((c.prescaler + n) % factor_of c)) (down_after c k)) (c.ip || (interrupt_on c && not (zeros_in c k == 0)));
      zeros = zeros_in c k;
    }

-- n clocks by division
unfoldable pub clocks_after : Channel → ℕ → ChannelRan
clocks_after c n = if timer_runs c then timer_after c n (timer_counts c n) else unticked c

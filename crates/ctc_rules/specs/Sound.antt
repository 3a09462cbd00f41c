-- docs/CTC.md, "Sound means": a named clause for each rule.
-- Assumes nothing.
use Rattle.std.specs.Prelude.{◌%◌, Bool, not, ◌&&◌, ltb, ◌==◌}
use Rattle.rules.specs.Sound.{only}
use Rattle.ctc_rules.specs.declared.Channel.{Channel}
use Rattle.ctc_rules.specs.declared.Ctc.{Ctc}
use Rattle.ctc_rules.specs.Record.{counter_mode, factor_of, channel_at}
use Rattle.ctc_rules.specs.Channels.{timer_runs}

-- "D2-D0 of its control register are 0"
unfoldable pub control_bits : Channel → Bool
control_bits c = c.control % 8 == 0

-- "a channel runs only with a constant"
unfoldable pub runs_loaded : Channel → Bool
runs_loaded c = only c.running c.loaded

-- "constant 0 in a channel that has none"
unfoldable pub constant_loaded : Channel → Bool
constant_loaded c = only (not c.loaded) (c.constant == 0)

-- "a loaded channel in counter mode runs"
unfoldable pub counter_runs : Channel → Bool
counter_runs c = only (c.loaded && counter_mode c) c.running

-- "the prescaler is below its factor"
unfoldable pub prescaler_below : Channel → Bool
prescaler_below c = ltb c.prescaler (factor_of c)

-- "and 0 but in a timer that runs"
unfoldable pub prescaler_timed : Channel → Bool
prescaler_timed c = only (not (timer_runs c)) (c.prescaler == 0)

unfoldable pub sound_channel : Channel → Bool
sound_channel c = control_bits c && runs_loaded c && constant_loaded c && counter_runs c && prescaler_below c && prescaler_timed c

-- every channel is; "D2-D0 .. of the vector 0, D7-D4 of the levels 0"
unfoldable pub sound_ctc : Ctc → Bool
sound_ctc d =
    sound_channel (channel_at d 0) && sound_channel (channel_at d 1) && sound_channel (channel_at d 2) && sound_channel (channel_at d 3)
    && d.vector % 8 == 0 && ltb d.levels 16

-- Paper 02, W-210: "Where both ports are bit ports, no counter is linked, all outputs to pins are off, and neither port has an edge
-- pattern".
-- Assumes nothing.
use Rattle.std.specs.Prelude.{Bool, not, ◌&&◌, ◌||◌, ◌==◌}
use Rattle.rules.specs.declared.Device.{Device}
use Rattle.rules.specs.Record.{pattern_at, counter_at}
use Rattle.rules.specs.Registers.{lc}
use Rattle.rules.specs.Handshakes.{handshakes}
use Rattle.rules.specs.Counters.{output_enabled}

-- "no counter is linked" is LC 00; "all outputs to pins are off": D6 of 1CH-1EH is 0 (docs/DECISIONS.md, X11)
unfoldable pub plain : Device → Bool
plain d =
    not (handshakes (pattern_at d 0)) && not (handshakes (pattern_at d 1)) && lc d == 0
    && not (output_enabled (counter_at d 0) || output_enabled (counter_at d 1) || output_enabled (counter_at d 2))
    && (pattern_at d 0).transition == 0 && (pattern_at d 1).transition == 0

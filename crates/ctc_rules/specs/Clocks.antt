-- docs/CTC.md, "Clock": many clocks of the device.
-- Assumes nothing.
use Rattle.std.specs.Prelude.{ℕ, ◌+◌, List, get_or}
use Rattle.basics.specs.Byte.{num}
use Rattle.basics.specs.Iterate.{iterate}
use Rattle.ctc_rules.specs.declared.Ctc.{Ctc}
use Rattle.ctc_rules.specs.declared.CtcRan.{CtcRan}
use Rattle.ctc_rules.specs.Set.{set_channels}
use Rattle.ctc_rules.specs.Record.{four_of, channel_at}
use Rattle.ctc_rules.specs.Channels.{clock_channel}

-- "zero counts of the four channels (0 but for T)"
abbrev pub no_zeros : List ℕ
no_zeros = four_of (λ i. 0)

-- one clock: "A clock goes to all four channels; none feeds another."
unfoldable pub clock_ctc : CtcRan → CtcRan
clock_ctc s =
    record {
      device = set_channels s.device (four_of (λ i. (clock_channel (channel_at s.device i)).channel));
      zeros = four_of (λ i. get_or s.zeros i 0 + num (clock_channel (channel_at s.device i)).zero);
    }

-- "T n: n clocks."
unfoldable pub ran_ctc : ℕ → Ctc → CtcRan
ran_ctc n d = iterate n clock_ctc (record { device = d; zeros = no_zeros })

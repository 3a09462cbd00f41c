-- A CTC's record with one field replaced: one for each field of a channel, and of the device.
-- Assumes nothing.
use Rattle.std.specs.Prelude.{ℕ, Bool, List, set}
use Rattle.ctc_rules.specs.declared.Channel.{Channel}
use Rattle.ctc_rules.specs.declared.Ctc.{Ctc}

-- ---- a channel, of its parts in the struct's order
abbrev pub channel_of : ℕ → ℕ → ℕ → ℕ → Bool → Bool → Bool → Bool → Bool → Channel
channel_of k t n p l a r i s =
    record { control = k; constant = t; count = n; prescaler = p; loaded = l; awaits = a; running = r; ip = i; ius = s }

abbrev pub set_control : Channel → ℕ → Channel
set_control c v = channel_of v c.constant c.count c.prescaler c.loaded c.awaits c.running c.ip c.ius

abbrev pub set_constant : Channel → ℕ → Channel
set_constant c v = channel_of c.control v c.count c.prescaler c.loaded c.awaits c.running c.ip c.ius

abbrev pub set_count : Channel → ℕ → Channel
set_count c v = channel_of c.control c.constant v c.prescaler c.loaded c.awaits c.running c.ip c.ius

abbrev pub set_prescaler : Channel → ℕ → Channel
set_prescaler c v = channel_of c.control c.constant c.count v c.loaded c.awaits c.running c.ip c.ius

abbrev pub set_loaded : Channel → Bool → Channel
set_loaded c v = channel_of c.control c.constant c.count c.prescaler v c.awaits c.running c.ip c.ius

abbrev pub set_awaits : Channel → Bool → Channel
set_awaits c v = channel_of c.control c.constant c.count c.prescaler c.loaded v c.running c.ip c.ius

abbrev pub set_running : Channel → Bool → Channel
set_running c v = channel_of c.control c.constant c.count c.prescaler c.loaded c.awaits v c.ip c.ius

abbrev pub set_ip : Channel → Bool → Channel
set_ip c v = channel_of c.control c.constant c.count c.prescaler c.loaded c.awaits c.running v c.ius

abbrev pub set_ius : Channel → Bool → Channel
set_ius c v = channel_of c.control c.constant c.count c.prescaler c.loaded c.awaits c.running c.ip v

-- ---- the device
abbrev pub set_channels : Ctc → List Channel → Ctc
set_channels d cs = record { channels = cs; vector = d.vector; levels = d.levels; iei = d.iei }

abbrev pub set_vector : Ctc → ℕ → Ctc
set_vector d v = record { channels = d.channels; vector = v; levels = d.levels; iei = d.iei }

abbrev pub set_levels : Ctc → ℕ → Ctc
set_levels d v = record { channels = d.channels; vector = d.vector; levels = v; iei = d.iei }

abbrev pub set_iei : Ctc → Bool → Ctc
set_iei d v = record { channels = d.channels; vector = d.vector; levels = d.levels; iei = v }

-- channel i replaced; there is none past the fourth
abbrev pub set_channel : Ctc → ℕ → Channel → Ctc
set_channel d i c = set_channels d (set d.channels i c)

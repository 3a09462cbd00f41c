-- Paper 02, W-203 and W-206: a port with handshake, its settings, and its lines on Port C. Ports A and B are one rule over their place.
-- Assumes nothing.
use Rattle.std.specs.Prelude.{ℕ, ◌-◌, ◌*◌, ◌/◌, Bool, not, ◌&&◌, ◌||◌, ltb, if◌then◌else◌, ◌==◌}
use Rattle.basics.specs.Byte.{bit, differs}
use Rattle.rules.specs.declared.Device.{Device}
use Rattle.rules.specs.declared.Pattern.{Pattern}
use Rattle.rules.specs.declared.Transfer.{Transfer}
use Rattle.rules.specs.Record.{port_at, pattern_at, transfer_at}
use Rattle.rules.specs.Registers.{port_enabled}

-- "Ports A and B as input ports": D7-D6 of 20H/28H are 01; W-206, "Add output ports": 10
abbrev pub inputs : Pattern → Bool
inputs q = q.mode / 64 == 1

abbrev pub outputs : Pattern → Bool
outputs q = q.mode / 64 == 2

abbrev pub handshakes : Pattern → Bool
handshakes q = inputs q || outputs q

-- ITB is D5 of 20H/28H, SB D4
abbrev pub itb : Pattern → Bool
itb q = bit q.mode 5

abbrev pub sb : Pattern → Bool
sb q = bit q.mode 4

-- "Interlocked or Strobed": D7-D6 of 21H/29H are 00 or 01
abbrev pub strobed : Pattern → Bool
strobed q = q.handshake / 64 == 1

-- "two bytes deep, one with SB"
unfoldable pub depth : Pattern → ℕ
depth q = if sb q then 1 else 2

-- "A byte moving into the Input register sets IRF"; "0 for other port types"
unfoldable pub irf_of : Pattern → Transfer → Bool
irf_of q t = inputs q && not (t.bytes == 0)

abbrev pub irf_at : Device → ℕ → Bool
irf_at d p = irf_of (pattern_at d p) (transfer_at d p)

-- W-206: "ORE is D3 as IRF is D2": the Output register is empty while room is left
unfoldable pub ore_of : Pattern → Transfer → Bool
ore_of q t = outputs q && ltb t.bytes (depth q)

abbrev pub ore_at : Device → ℕ → Bool
ore_at d p = ore_of (pattern_at d p) (transfer_at d p)

-- "An enabled port's ready line shows exactly that room is left and no transfer is unfinished"
unfoldable pub ready_of : Bool → Pattern → Transfer → Bool
ready_of enabled q t = enabled && ltb t.bytes (depth q) && not t.unfinished

abbrev pub ready_at : Device → ℕ → Bool
ready_at d p = ready_of (port_enabled d p) (pattern_at d p) (transfer_at d p)

-- "lines by Table 1 of document 000": Port A's RFD or DAV is PC3, its ACKIN PC2; Port B's are PC1 and PC0. So bit k of Port C is a
-- line of the port at 1 - k / 2, if that has a handshake, and the even bits are ACKIN.
unfoldable pub is_line : Device → ℕ → Bool
is_line d k = ltb k 4 && handshakes (pattern_at d (1 - k / 2))

abbrev pub ackin_bit : ℕ → ℕ
ackin_bit p = 2 - 2 * p

-- the path value of the port's ACKIN, which is an input whatever Port C's registers hold: its pin, so the outside level, XOR polarity
unfoldable pub ackin_at : Device → ℕ → Bool
ackin_at d p = differs (bit (port_at d 2).outside (ackin_bit p)) (bit (port_at d 2).polarity (ackin_bit p))

-- W-206: "Data Available goes active only when a byte stands at the pins". Interlocked (document 000), "An output port does not
-- indicate that new data is available until the external device indicates it is ready for the data.": ACKIN is 1, and no transfer is
-- unfinished
unfoldable pub available_of : Bool → Pattern → Transfer → Bool → Bool
available_of enabled q t ackin = enabled && not (t.bytes == 0) && (strobed q || (not t.unfinished && ackin))

abbrev pub available_at : Device → ℕ → Bool
available_at d p = available_of (port_enabled d p) (pattern_at d p) (transfer_at d p) (ackin_at d p)

-- what port p puts out for the outside to act on: that it is ready, or that a byte is available
unfoldable pub offers_at : Device → ℕ → Bool
offers_at d p = if inputs (pattern_at d p) then ready_at d p else available_at d p

-- what its line shows, before polarity: RFD is 1 when ready, DAV (with a bar) 0 when a byte is available
unfoldable pub shown_at : Device → ℕ → Bool
shown_at d p = if inputs (pattern_at d p) then offers_at d p else not (offers_at d p)

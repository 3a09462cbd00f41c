-- Paper 01, "Port data": for one bit, then for the byte of a port.
-- Assumes nothing.
use Rattle.std.specs.Prelude.{ℕ, ◌+◌, ◌-◌, ◌/◌, ◌%◌, Bool, true, not, ◌&&◌, ◌||◌, ltb, if◌then◌else◌, ◌==◌}
use Rattle.rules.specs.declared.Device.{Device}
use Rattle.rules.specs.declared.Counter.{Counter}
use Rattle.rules.specs.declared.Port.{Port}
use Rattle.basics.specs.Byte.{bit, differs, byte_of}
use Rattle.rules.specs.With.{with_direction, with_special, with_output, with_catcher}
use Rattle.rules.specs.Record.{port_at, pattern_at, transfer_at, counter_at}
use Rattle.rules.specs.Registers.{port_enabled}
use Rattle.rules.specs.Handshakes.{inputs, outputs, shown_at, is_line}
use Rattle.rules.specs.Counters.{output_enabled, output_of}

-- "An enabled port's output drives its value XOR polarity; open-drain (special 1) drives only low.
-- Undriven pins show the outside level." ("Direction 1 is input.")
unfoldable pub pin_bit : Bool → Bool → Bool → Bool → Bool → Bool → Bool
pin_bit enabled input drain polarity value outside =
    if enabled && not input && not (drain && differs value polarity) then differs value polarity else outside

-- "An input's path value is pin XOR polarity; an output's is the value put out before polarity."
unfoldable pub path_bit : Bool → Bool → Bool → Bool → Bool
path_bit input pin polarity value = if input then differs pin polarity else value

-- "Special 1 on an input of an enabled port is a 1's catcher"
unfoldable pub catches : Bool → Bool → Bool → Bool
catches enabled input special = enabled && input && special

-- "set while the path value is 1 .. Elsewhere the catcher is 0."
unfoldable pub caught_bit : Bool → Bool → Bool → Bool
caught_bit catching catcher path = catching && (catcher || path)

-- "read in its place"
unfoldable pub seen_bit : Bool → Bool → Bool → Bool
seen_bit catching catcher path = if catching then catcher else path

-- ---- the bytes of one port q, with the value that it puts out
unfoldable pub pins_of : Bool → Port → ℕ → ℕ
pins_of enabled q value =
    byte_of (λ k. pin_bit enabled (bit q.direction k) (bit q.special k) (bit q.polarity k) (bit value k) (bit q.outside k))

unfoldable pub path_of : Port → ℕ → ℕ → ℕ
path_of q pins value = byte_of (λ k. path_bit (bit q.direction k) (bit pins k) (bit q.polarity k) (bit value k))

unfoldable pub catches_at : Bool → Port → ℕ → Bool
catches_at enabled q k = catches enabled (bit q.direction k) (bit q.special k)

unfoldable pub caught_of : Bool → Port → ℕ → ℕ
caught_of enabled q path = byte_of (λ k. caught_bit (catches_at enabled q k) (bit q.catcher k) (bit path k))

unfoldable pub seen_of : Bool → Port → ℕ → ℕ
seen_of enabled q path = byte_of (λ k. seen_bit (catches_at enabled q k) (bit q.catcher k) (bit path k))

-- "C reads pin XOR polarity."
unfoldable pub level_of : Port → ℕ → ℕ
level_of q pins = byte_of (λ k. differs (bit pins k) (bit q.polarity k))

-- ---- the ports of the device: 0 is A, 1 is B, 2 is C
-- Paper 02, W-203 and W-206: the direction that is in effect. An input port has inputs, an output port outputs; of the lines ACKIN is
-- an input, RFD or DAV an output, "whatever direction and special registers hold".
unfoldable pub direction_at : Device → ℕ → ℕ
direction_at d p =
    if p == 2 then byte_of (λ k. if is_line d k then k % 2 == 0 else bit (port_at d p).direction k) else
    if inputs (pattern_at d p) then 0xFF else
    if outputs (pattern_at d p) then 0x00 else
    (port_at d p).direction

-- "these bits have no catcher": special 1 is in effect at none of them that is an input
unfoldable pub special_at : Device → ℕ → ℕ
special_at d p =
    if p == 2 then byte_of (λ k. not (is_line d k && k % 2 == 0) && bit (port_at d p).special k) else
    if inputs (pattern_at d p) then 0x00 else
    (port_at d p).special

-- the port with what is in effect
abbrev pub effective_at : Device → ℕ → Port
effective_at d p = with_special (with_direction (port_at d p) (direction_at d p)) (special_at d p)

-- "An enabled output stands, unstored, for the data bit": the byte x with the output of c at Dk
unfoldable pub standing : ℕ → Counter → ℕ → ℕ → ℕ
standing version c k x = byte_of (λ j. if j == k && output_enabled c then output_of version c else bit x j)

-- the byte x of Port C with the lines that ports A and B show in their places
unfoldable pub lined : Device → ℕ → ℕ
lined d x = byte_of (λ k. if is_line d k && k % 2 == 1 then shown_at d (1 - k / 2) else bit x k)

-- "CT1 output .. PB4 ..; CT2 PB0 ..; CT3 PC0": the value that port p puts out. W-206: "The byte put out last stays in the data
-- register". "No counter output stands for a bit of a handshake port or of its lines": those of an input port and ACKIN are inputs,
-- which put nothing out.
unfoldable pub value_at : Device → ℕ → ℕ
value_at d p =
    if p == 0 || outputs (pattern_at d p) then (port_at d p).output else
    if p == 1 then standing d.version (counter_at d 0) 4 (standing d.version (counter_at d 1) 0 (port_at d p).output) else
    lined d (standing d.version (counter_at d 2) 0 (port_at d p).output)

unfoldable pub pins_at : Device → ℕ → ℕ
pins_at d p = pins_of (port_enabled d p) (effective_at d p) (value_at d p)

unfoldable pub path_at : Device → ℕ → ℕ
path_at d p = path_of (effective_at d p) (pins_at d p) (value_at d p)

-- the path values with the catchers in their places
unfoldable pub seen_at : Device → ℕ → ℕ
seen_at d p = seen_of (port_enabled d p) (effective_at d p) (path_at d p)

-- "A and B read path values, outputs included; C reads pin XOR polarity." An input port with
-- handshake reads its front byte; of an output port "reads return" the byte put out last, its path value.
unfoldable pub data_at : Device → ℕ → ℕ
data_at d p =
    if p == 2 then seen_of (port_enabled d p) (effective_at d p) (level_of (port_at d p) (pins_at d p)) else
    if inputs (pattern_at d p) then (transfer_at d p).front else
    seen_at d p

-- ---- a write of data
-- "Other writes to input bits do nothing."
unfoldable pub output_bit : Bool → Bool → Bool → Bool → Bool
output_bit opened input new old = if opened && not input then new else old

-- "writing 0 to that data bit clears it"
unfoldable pub cleared_bit : Bool → Bool → Bool → Bool
cleared_bit opened new old = old && not (opened && not new)

-- the port q, with that direction in effect, with the byte b written to the bits that are opened
unfoldable pub put_of : Port → ℕ → (ℕ → Bool) → ℕ → Port
put_of q direction opened b =
    with_output (with_catcher q (byte_of (λ k. cleared_bit (opened k) (bit b k) (bit q.catcher k))))
    (byte_of (λ k. output_bit (opened k) (bit direction k) (bit b k) (bit q.output k)))

-- "Port C data: D7-D4 protect D3-D0, catchers included."
unfoldable pub unprotected : ℕ → ℕ → ℕ → Bool
unprotected p b k = if p == 2 then ltb k 4 && not (bit b (k + 4)) else true

unfoldable pub written_data : Port → ℕ → ℕ → ℕ → Port
written_data q direction p b = put_of q direction (unprotected p b) b

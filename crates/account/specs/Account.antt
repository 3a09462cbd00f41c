-- Paper 02, W-207, "Every byte leaves once": the account of a port with handshake, from what the host and the outside see: the events
-- with their codes, and the lines before and after each. Ports A and B are one rule over their place.
-- Assumes nothing.
use Rattle.std.specs.Prelude.{ℕ, ◌+◌, ◌-◌, ◌*◌, ◌<◌, ◌≡◌, Bool, true, false, not, ◌&&◌, ◌||◌, List, [], ◌∷◌, ◌++◌, get_or, take, if◌then◌else◌, ◌==◌}
use Rattle.basics.specs.Byte.{bit, rises}
use Rattle.rules.specs.declared.Device.{Device}
use Rattle.rules.specs.declared.Event.{Event}
use Rattle.rules.specs.declared.Kind.TheVariants.{Data}
use Rattle.rules.specs.Record.{port_at, transfer_at}
use Rattle.rules.specs.Registers.{port_on, port_enabled}
use Rattle.rules.specs.Handshakes.{ackin_bit}
use Rattle.rules.specs.PortData.{level_of, value_at, pins_at, path_at}
use Rattle.rules.specs.Access.{read_of}
use Rattle.rules.specs.Events.{is_x, is_w, is_r, event_of}
use Rattle.theorems.specs.Traces.{record_after}

-- ---- the lines
-- RFD or DAV of port p, at PC3 or PC1: the value put out, before polarity and open drain
abbrev pub line_bit : ℕ → ℕ
line_bit p = 3 - 2 * p

unfoldable pub line_at : Device → ℕ → Bool
line_at d p = bit (value_at d 2) (line_bit p)

-- "The handshake lines are ignored until Port C is enabled." (document 000)
unfoldable pub heeded : Device → ℕ → Bool
heeded d p = port_enabled d p && port_enabled d 2

-- ACKIN of port p falls, by its path value, from the record d to the record e
unfoldable pub acknowledges : Device → Device → ℕ → Bool
acknowledges d e p = heeded d p && heeded e p && rises (bit (path_at e 2) (ackin_bit p)) (bit (path_at d 2) (ackin_bit p))

-- ---- one event
abbrev pub after : Device → Event → Device
after d e = (event_of d e).device

abbrev pub is_accepted : Device → Event → Bool
is_accepted d e = (event_of d e).answer.code == 0

-- the byte, if the test passes
abbrev pub byte_if : Bool → ℕ → List ℕ
byte_if v b = if v then b ∷ [] else []

-- "the bytes written with code 0"
unfoldable pub data_written_by : ℕ → Device → Event → List ℕ
data_written_by p d e = byte_if (is_w e && e.a == 0x0D + p && is_accepted d e) e.b

-- "the bytes acknowledged outside": ACKIN falls while DAV, which is low active, is shown. The byte is the one that R of the data returns
-- before the event.
unfoldable pub acknowledged_by : ℕ → Device → Event → List ℕ
acknowledged_by p d e = byte_if (not (line_at d p) && acknowledges d (after d e) p) (read_of d (Data p))

-- "those strobed in while ready was shown": pin XOR polarity after the event
unfoldable pub strobed_by : ℕ → Device → Event → List ℕ
strobed_by p d e = byte_if (line_at d p && acknowledges d (after d e) p) (level_of (port_at (after d e) p) (pins_at (after d e) p))

-- "the bytes read with code 0"
unfoldable pub read_by : ℕ → Device → Event → List ℕ
read_by p d e = byte_if (is_r e && e.a == 0x0D + p && is_accepted d e) (event_of d e).answer.value

-- "those still held", the front byte first
unfoldable pub held_of : Device → ℕ → List ℕ
held_of d p = take (transfer_at d p).bytes ((transfer_at d p).front ∷ (transfer_at d p).behind ∷ [])

-- they are bytes. So of every record of the struct, which holds them in a u8 each; here a field is a number, and none of the rules bounds
-- it. Of an output port it is asked, since R of the data gives the bits of the data register.
abbrev pub HoldsBytes : ℕ → Device → Type 0
HoldsBytes p d = (k : ℕ) → get_or (held_of d p) k 0 < 256

-- ---- events one after the other
unfoldable pub over : (Device → Event → List ℕ) → Device → List Event → List ℕ
over f d [] = []
over f d (e ∷ l) = f d e ++ over f (after d e) l

-- in a first part and others, where g is done to the record at each cut: "A save and its own restore may stand anywhere between"
unfoldable pub over_cut : (Device → Device) → (Device → Event → List ℕ) → Device → List Event → List (List Event) → List ℕ
over_cut g f d l [] = over f d l
over_cut g f d l (m ∷ ms) = over f d l ++ over_cut g f (g (record_after d l)) m ms

-- "While a port .. isn't reset, disabled or set up again": the events that do so
unfoldable pub ends_account : ℕ → Device → Event → Bool
ends_account p d e =
    is_accepted d e
    && (is_x e
    || (is_w e
    && ((e.a == 0x00 && bit e.b 0) || (e.a == 0x01 && not (port_on e.b p)) || e.a == 0x20 + 8 * p || e.a == 0x21 + 8 * p)))

unfoldable pub account_stands : ℕ → Device → List Event → Bool
account_stands p d [] = true
account_stands p d (e ∷ l) = not (ends_account p d e) && account_stands p (after d e) l

-- ---- the two accounts of the events l from the record d
abbrev pub OutputAccount : ℕ → Device → List Event → Type 0
OutputAccount p d l = held_of d p ++ over (data_written_by p) d l ≡ over (acknowledged_by p) d l ++ held_of (record_after d l) p

abbrev pub InputAccount : ℕ → Device → List Event → Type 0
InputAccount p d l = held_of d p ++ over (strobed_by p) d l ≡ over (read_by p) d l ++ held_of (record_after d l) p

-- ---- at the pins themselves, where the special bits are 0: the lines are driven both ways
abbrev pub Driven : ℕ → Device → Type 0
Driven p d = (bit (port_at d 2).special (line_bit p) ≡ false) × ((port_at d p).special ≡ 0)

unfoldable pub line_pin : Device → ℕ → Bool
line_pin d p = bit (level_of (port_at d 2) (pins_at d 2)) (line_bit p)

unfoldable pub acknowledged_at_pins : ℕ → Device → Event → List ℕ
acknowledged_at_pins p d e = byte_if (not (line_pin d p) && acknowledges d (after d e) p) (level_of (port_at d p) (pins_at d p))

unfoldable pub strobed_at_pins : ℕ → Device → Event → List ℕ
strobed_at_pins p d e = byte_if (line_pin d p && acknowledges d (after d e) p) (level_of (port_at (after d e) p) (pins_at (after d e) p))

-- at every record that the events start from
abbrev pub Throughout : (Device → Type 0) → Device → List Event → Type 0
Throughout P d [] = Unit {0}
Throughout P d (e ∷ l) = P d × Throughout P (after d e) l

-- how often a byte is in a list
unfoldable pub times : ℕ → List ℕ → ℕ
times b [] = 0
times b (x ∷ xs) = (if x == b then 1 else 0) + times b xs

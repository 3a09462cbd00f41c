-- Paper 02, W-203 and W-206: bytes move "in the R, W or P that lets them, never in T". Moves in a W or P belong to (a) of its step.
-- Assumes nothing.
use Rattle.std.specs.Prelude.{ℕ, Bool, true, false, not, ◌&&◌, ◌||◌, ltb, if◌then◌else◌, ◌==◌}
use Rattle.basics.specs.Byte.{rises}
use Rattle.rules.specs.declared.Device.{Device}
use Rattle.rules.specs.declared.Source.{Source}
use Rattle.rules.specs.declared.Pattern.{Pattern}
use Rattle.rules.specs.declared.Transfer.{Transfer}
use Rattle.rules.specs.With.{transfer, with_ip, with_output, with_unfinished, with_port, with_transfer, with_source}
use Rattle.rules.specs.Record.{port_at, pattern_at, transfer_at, source_at, of_port}
use Rattle.rules.specs.Registers.{port_enabled, ip_cleared}
use Rattle.rules.specs.Handshakes.{inputs, handshakes, itb, sb, strobed, depth, offers_at, ackin_at}
use Rattle.rules.specs.PortData.{path_at}

-- ---- what is held
-- the bytes held with b behind them: b is the front byte where none is held; then the two flags
unfoldable pub joined : ℕ → Transfer → Bool → Bool → Transfer
joined b t unfinished pair =
    if t.bytes == 0 then transfer b 0 1 unfinished pair else transfer t.front b 2 unfinished pair

-- without the front byte: the byte behind moves up
unfoldable pub shifted : Transfer → Bool → Bool → Transfer
shifted t unfinished pair = transfer t.behind 0 (if t.bytes == 2 then 1 else 0) unfinished pair

-- what port p holds and its source, together
unfoldable pub held_at : Device → ℕ → Transfer → Source → Device
held_at d p t s = with_source (with_transfer d p t) (of_port p) s

-- the data register of port p, which goes to the pins
unfoldable pub put_at : Device → ℕ → ℕ → Device
put_at d p b = with_port d p (with_output (port_at d p) b)

-- a byte that moves asks for an interrupt, or does not
unfoldable pub asked_if : Bool → Source → Source
asked_if asks s = if asks then with_ip s true else s

-- ---- ACKIN
-- document 000: "The handshake lines are ignored until Port C is enabled."
unfoldable pub works_at : Device → ℕ → Bool
works_at d p = handshakes (pattern_at d p) && port_enabled d p && port_enabled d 2

-- there is room for a byte, or a byte to leave
unfoldable pub can_move : Pattern → Transfer → Bool
can_move q t = if inputs q then ltb t.bytes (depth q) else not (t.bytes == 0)

-- "The falling edge of the Acknowledge Input (ACKIN) strobes data" (document 000), and acknowledges it, if the port offered to: from
-- the record before the step to the one after its direct effect
unfoldable pub falls : Device → Device → ℕ → Bool
falls d0 d p =
    works_at d0 p && works_at d p && offers_at d0 p && can_move (pattern_at d p) (transfer_at d p) && rises (ackin_at d p) (ackin_at d0 p)

-- "A byte moving into the Input register sets IRF and, with ITB 0, IP; with ITB 1, IP waits for two bytes."
unfoldable pub asks_in : Pattern → Transfer → Bool
asks_in q t = if itb q then t.bytes == 1 else t.bytes == 0

-- the byte at the pins is taken; Interlocked, the transfer is unfinished
unfoldable pub taken_at : Device → ℕ → Device
taken_at d p =
    held_at d p (joined (path_at d p) (transfer_at d p) (not (strobed (pattern_at d p))) (transfer_at d p).pair)
    (asked_if (asks_in (pattern_at d p) (transfer_at d p)) (source_at d (of_port p)))

-- W-206: IP is set when a byte moves "out of the Output register" (document 000) to the pins; with SB, which has but one register, at
-- the acknowledge; with ITB 1 when the last byte held is acknowledged
unfoldable pub asks_out : Pattern → Transfer → Bool
asks_out q t = if itb q || sb q then t.bytes == 1 else t.bytes == 2

-- the byte that is acknowledged leaves, and "the next byte moves up only after the acknowledge": to the pins. "The byte put out last
-- stays in the data register"
unfoldable pub left_at : Device → ℕ → Device
left_at d p =
    held_at (if (transfer_at d p).bytes == 2 then put_at d p (transfer_at d p).behind else d) p
    (shifted (transfer_at d p) (not (strobed (pattern_at d p))) (transfer_at d p).pair)
    (asked_if (asks_out (pattern_at d p) (transfer_at d p)) (source_at d (of_port p)))

-- the moves of port p: a fall of ACKIN; ACKIN at 1 ends the transfer that is unfinished
unfoldable pub moves_at : ℕ → Device → Device → Device
moves_at p d0 d =
    if falls d0 d p then (if inputs (pattern_at d p) then taken_at d p else left_at d p) else
    if works_at d p && ackin_at d p then with_transfer d p (with_unfinished (transfer_at d p) false) else
    d

-- of both ports, from the record before the step and the one after its direct effect
unfoldable pub moves_of : Device → Device → Device
moves_of d0 d1 = moves_at 1 d0 (moves_at 0 d0 d1)

-- ---- a read or a write of the data
-- "Reading the data clears IP, with ITB 1 at the second byte read since IP rose"; W-206: "the bit for a pair half done serves two
-- writes as it serves two reads"
unfoldable pub served_by : Pattern → Transfer → Source → Source
served_by q t s = if itb q && not t.pair then s else ip_cleared s

-- "the port keeps a bit for a pair half done"
unfoldable pub pair_by : Pattern → Transfer → Source → Bool
pair_by q t s = itb q && s.ip && not t.pair

-- a read: the front byte goes; then the byte behind is one "moving into the Input register", which asks with ITB 0
unfoldable pub given_at : Device → ℕ → Device
given_at d p =
    held_at d p (shifted (transfer_at d p) (transfer_at d p).unfinished (pair_by (pattern_at d p) (transfer_at d p) (source_at d (of_port p))))
    (asked_if (not (itb (pattern_at d p)) && (transfer_at d p).bytes == 2) (served_by (pattern_at d p) (transfer_at d p) (source_at d (of_port p))))

-- W-206, a write: the byte goes to the pins when none stands there, else behind; to the pins it moves "out of the Output register", if
-- there are two registers, which asks with ITB 0
unfoldable pub stored_at : Device → ℕ → ℕ → Device
stored_at d p b =
    held_at (if (transfer_at d p).bytes == 0 then put_at d p b else d) p
    (joined b (transfer_at d p) (transfer_at d p).unfinished (pair_by (pattern_at d p) (transfer_at d p) (source_at d (of_port p))))
    (asked_if (not (itb (pattern_at d p)) && not (sb (pattern_at d p)) && (transfer_at d p).bytes == 0)
    (served_by (pattern_at d p) (transfer_at d p) (source_at d (of_port p))))

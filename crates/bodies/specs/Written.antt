-- Paper 01, "The image", and paper 02, W-205 and W-209: the bodies of a record, byte for byte, and its image. Every field of the record
-- stands in one of them, but for the stored lines, which are worked out (W-208):
--
--   | field                                               | body                                   |
--   |-----------------------------------------------------|----------------------------------------|
--   | master, config, vectors                             | 1: 00, 01, 02-04                       |
--   | ports: polarity, direction, special                 | 1: 22-24 A, 2A-2C B, 05-07 C           |
--   | ports: output                                       | 1: 0D-0F                               |
--   | ports: outside, catcher                             | 3                                      |
--   | patterns: mode, handshake, polarity, transition, mask | 1: 20, 21, 25-27 A, 28, 29, 2D-2F B  |
--   | patterns: ioe, pmf                                  | 1: 08, 09                              |
--   | counters: mode, constant, frozen                    | 1: 1C-1E, 16-1B, 10-15                 |
--   | counters: rcc, gcb, cip                             | 1: 0A-0C                               |
--   | counters: count, half, pulse                        | 2                                      |
--   | sources: ius, ie, ip, err                           | 1: 08, 09 ports, 0A-0C counters        |
--   | sources: hidden                                     | 2 counters, 3 ports                    |
--   | iei, phase                                          | 4                                      |
--   | transfers                                           | 5                                      |
--   | version                                             | the first byte                         |
--   | of a Z8536: pointer, pointed                        | 6                                      |
--
-- Assumes nothing.
use Rattle.std.specs.Prelude.{ℕ, zero, suc, ◌+◌, ◌-◌, ◌/◌, ◌%◌, Bool, true, false, List, [], ◌∷◌, ◌++◌, if◌then◌else◌, ◌==◌}
use Rattle.basics.specs.Signs.{within}
use Rattle.rules.specs.declared.Device.{Device}
use Rattle.rules.specs.declared.Transfer.{Transfer}
use Rattle.basics.specs.Byte.{byte_in}
use Rattle.rules.specs.Record.{register_count, vector_at, port_at, transfer_at, counter_at, source_at, of_port, of_counter}
use Rattle.rules.specs.Registers.{kind_of}
use Rattle.rules.specs.Access.{read_of}
use Rattle.bodies.specs.declared.Bodies.{Bodies}
use Rattle.bodies.specs.Layout.{Entry, Layout, layout_of, contents_of}

-- the values of f at n places from i
abbrev pub listed : (ℕ → ℕ) → ℕ → ℕ → List ℕ
listed f i zero = []
listed f i (suc n) = f i ∷ listed f (suc i) n

-- "register bytes by address; command registers as read, 0D-0F output registers, 10-15 the frozen count or 0, 1F 0", and vectors
-- without status. A sound record, and no other is saved, has a frozen count only with RCC, and else 0.
unfoldable pub saved_byte : Device → ℕ → ℕ
saved_byte d a =
    if within 0x02 0x04 a then vector_at d (a - 0x02) else
    if within 0x0D 0x0F a then (port_at d (a - 0x0D)).output else
    if within 0x10 0x15 a then byte_in (a % 2 == 0) (counter_at d ((a - 0x10) / 2)).frozen else
    if a == 0x1F then 0x00 else
    read_of d (kind_of a)

-- n register bytes from address a
unfoldable pub registers_from : Device → ℕ → ℕ → List ℕ
registers_from d a n = listed (saved_byte d) a n

-- "Body 1: register bytes by address"
unfoldable pub registers_body : Device → List ℕ
registers_body d = registers_from d 0x00 register_count

-- "flags (D0 second half, D1 hidden error)"; version 2 "carries that bit as D2 of the flags" (in version 1 there is no pulse)
unfoldable pub flags_of : Device → ℕ → ℕ
flags_of d i =
    (if (counter_at d i).half then 1 else 0) + (if (source_at d (of_counter i)).hidden then 2 else 0) + (if (counter_at d i).pulse then 4 else 0)

-- "count, high first, then flags"
abbrev pub counter_bytes : Device → ℕ → List ℕ
counter_bytes d i = byte_in true (counter_at d i).count ∷ byte_in false (counter_at d i).count ∷ flags_of d i ∷ []

-- "Body 2, per counter"
unfoldable pub counts_body : Device → List ℕ
counts_body d = counter_bytes d 0 ++ counter_bytes d 1 ++ counter_bytes d 2

-- "hidden errors (D0 A, D1 B)"
unfoldable pub hidden_of : Device → ℕ
hidden_of d = (if (source_at d (of_port 0)).hidden then 1 else 0) + (if (source_at d (of_port 1)).hidden then 2 else 0)

-- "Body 3: outside A, B, C; catchers A, B, C; hidden errors"
unfoldable pub pins_body : Device → List ℕ
pins_body d =
    (port_at d 0).outside ∷ (port_at d 1).outside ∷ (port_at d 2).outside
    ∷ (port_at d 0).catcher ∷ (port_at d 1).catcher ∷ (port_at d 2).catcher
    ∷ hidden_of d ∷ []

-- "Body 4: IEI, phase"
unfoldable pub lines_body : Device → List ℕ
lines_body d = (if d.iei then 1 else 0) ∷ (if d.phase then 1 else 0) ∷ []

-- "four a port: front byte, byte behind it, how many are held (0 to 2), then D0 for an unfinished transfer and D1 for a pair half done"
abbrev pub transfer_bytes : Transfer → List ℕ
transfer_bytes t = t.front ∷ t.behind ∷ t.bytes ∷ ((if t.unfinished then 1 else 0) + (if t.pair then 2 else 0)) ∷ []

-- body 5
unfoldable pub transfers_body : Device → List ℕ
transfers_body d = transfer_bytes (transfer_at d 0) ++ transfer_bytes (transfer_at d 1)

-- the five together, as the call that writes them hands them out
abbrev pub bodies_of : Device → Bodies
bodies_of d =
    record { registers = registers_body d; counts = counts_body d; pins = pins_body d; lines = lines_body d; transfers = transfers_body d }

-- W-209, body 6: "pointer and state"
unfoldable pub pointer_body : ℕ → Bool → List ℕ
pointer_body pointer pointed = pointer ∷ (if pointed then 1 else 0) ∷ []

-- the body of an id
abbrev pub body_of : Device → ℕ → List ℕ
body_of d id =
    if id == 1 then registers_body d else
    if id == 2 then counts_body d else
    if id == 3 then pins_body d else
    if id == 4 then lines_body d else
    if id == 5 then transfers_body d else
    []

-- the bodies of some entries, one behind the other
abbrev pub bodies_from : (ℕ → List ℕ) → List Entry → List ℕ
bodies_from body [] = []
bodies_from body (e ∷ es) = body e.id ++ bodies_from body es

-- an image of these bodies in a layout: "Contents first", then the bodies
abbrev pub image_in : Layout → (ℕ → List ℕ) → List ℕ
image_in l body = contents_of l ++ bodies_from body l.entries

-- the image of a record
unfoldable pub image_of : Device → List ℕ
image_of d = image_in (layout_of d) (body_of d)

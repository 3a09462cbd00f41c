-- Paper 01, "The image": what each body tells of a record, and that its unused bits are 0; and the record that an image tells.
-- Body 1 gives a record; bodies 2 to 5 each put into it what they tell.
-- Assumes nothing.
use Rattle.std.specs.Prelude.{ℕ, ◌+◌, ◌*◌, ◌<◌, Bool, false, not, ◌&&◌, List, [], ◌∷◌, ltb, get_or, ◌==◌}
use Rattle.std.specs.Bool.{beq}
use Rattle.basics.specs.Byte.{bit}
use Rattle.rules.specs.declared.Source.{Source}
use Rattle.rules.specs.declared.Counter.{Counter}
use Rattle.rules.specs.declared.Port.{Port}
use Rattle.rules.specs.declared.Pattern.{Pattern}
use Rattle.rules.specs.declared.Transfer.{Transfer}
use Rattle.rules.specs.Handshakes.{irf_of, ore_of}
use Rattle.rules.specs.declared.Device.{Device}
use Rattle.rules.specs.Record.{bare, vacant, silent, quiet, counter_at}
use Rattle.rules.specs.Interrupts.{relined}
use Rattle.rules.specs.With.{transfer, with_hidden, with_count, with_half, with_pulse, with_outside, with_catcher, with_ports, with_transfers, with_counters, with_sources, with_iei, with_phase}
use Rattle.bodies.specs.Layout.{Layout, body_in}

-- the byte at a place; that they are bytes; and two bytes, high first
abbrev pub byte_at : List ℕ → ℕ → ℕ
byte_at b k = get_or b k 0

abbrev pub Bytes : List ℕ → Type 0
Bytes b = (k : ℕ) → byte_at b k < 256

abbrev pub word_of : ℕ → ℕ → ℕ
word_of high low = high * 256 + low

-- ---- body 1
-- "Reads give IUS, IE, IP, ERR in D7-D4."
abbrev pub source_in : ℕ → Source
source_in x = record { ius = bit x 7; ie = bit x 6; ip = bit x 5; err = bit x 4; hidden = false }

-- CT3, A, CT2, B, CT1, from "08, 09 port commands; 0A-0C counter commands"
abbrev pub sources_in : List ℕ → List Source
sources_in b =
    source_in (byte_at b 0x0C) ∷ source_in (byte_at b 0x08) ∷ source_in (byte_at b 0x0B) ∷ source_in (byte_at b 0x09) ∷ source_in (byte_at b 0x0A) ∷ []

abbrev pub port_in : ℕ → ℕ → ℕ → ℕ → Port
port_in p d s v = record { polarity = p; direction = d; special = s; output = v; outside = 0; catcher = 0 }

-- polarity, direction, special and output register: A from 22-24 and 0D, B from 2A-2C and 0E, C from 05-07 and 0F
abbrev pub ports_in : List ℕ → List Port
ports_in b =
    port_in (byte_at b 0x22) (byte_at b 0x23) (byte_at b 0x24) (byte_at b 0x0D)
    ∷ port_in (byte_at b 0x2A) (byte_at b 0x2B) (byte_at b 0x2C) (byte_at b 0x0E)
    ∷ port_in (byte_at b 0x05) (byte_at b 0x06) (byte_at b 0x07) (byte_at b 0x0F) ∷ []

-- A from 20, 21, 25-27 and 08, B likewise; "Port: D1 PMF, D0 IOE"
unfoldable pub pattern_in : List ℕ → ℕ → Pattern
pattern_in b p =
    record {
      mode = byte_at b (0x20 + 8 * p);
      handshake = byte_at b (0x21 + 8 * p);
      polarity = byte_at b (0x25 + 8 * p);
      transition = byte_at b (0x26 + 8 * p);
      mask = byte_at b (0x27 + 8 * p);
      ioe = bit (byte_at b (0x08 + p)) 0;
      pmf = bit (byte_at b (0x08 + p)) 1;
    }

abbrev pub patterns_in : List ℕ → List Pattern
patterns_in b = pattern_in b 0 ∷ pattern_in b 1 ∷ []

-- 1 from 1C, 16-17, 10-11 and 0A, 2 and 3 likewise; "Counter: D3 RCC, D2 GCB, D1 trigger (reads 0), D0 CIP."
unfoldable pub counter_in : List ℕ → ℕ → Counter
counter_in b i =
    record {
      mode = byte_at b (0x1C + i);
      constant = word_of (byte_at b (0x16 + 2 * i)) (byte_at b (0x17 + 2 * i));
      count = 0;
      frozen = word_of (byte_at b (0x10 + 2 * i)) (byte_at b (0x11 + 2 * i));
      rcc = bit (byte_at b (0x0A + i)) 3;
      gcb = bit (byte_at b (0x0A + i)) 2;
      cip = bit (byte_at b (0x0A + i)) 0;
      half = false;
      pulse = false;
    }

abbrev pub counters_in : List ℕ → List Counter
counters_in b = counter_in b 0 ∷ counter_in b 1 ∷ counter_in b 2 ∷ []

-- of an image of that version
unfoldable pub registers_in : ℕ → List ℕ → Device
registers_in version b =
    record {
      version = version;
      master = byte_at b 0x00;
      config = byte_at b 0x01;
      vectors = byte_at b 0x02 ∷ byte_at b 0x03 ∷ byte_at b 0x04 ∷ [];
      ports = ports_in b;
      patterns = patterns_in b;
      transfers = vacant ∷ vacant ∷ [];
      counters = counters_in b;
      sources = sources_in b;
      iei = false;
      phase = false;
      lines = silent false;
    }

-- ---- body 2
-- "per counter: count, high first, then flags (D0 second half, D1 hidden error)", D2 the pulse
unfoldable pub counter_with : Counter → List ℕ → ℕ → Counter
counter_with c b i =
    with_pulse (with_half (with_count c (word_of (byte_at b (3 * i)) (byte_at b (1 + 3 * i)))) (bit (byte_at b (2 + 3 * i)) 0)) (bit (byte_at b (2 + 3 * i)) 2)

abbrev pub counters_with : Device → List ℕ → List Counter
counters_with d b = counter_with (counter_at d 0) b 0 ∷ counter_with (counter_at d 1) b 1 ∷ counter_with (counter_at d 2) b 2 ∷ []

-- CT3, CT2 and CT1 of the five
abbrev pub sources_with : List Source → List ℕ → List Source
sources_with s b =
    with_hidden (get_or s 0 quiet) (bit (byte_at b 8) 1) ∷ get_or s 1 quiet
    ∷ with_hidden (get_or s 2 quiet) (bit (byte_at b 5) 1) ∷ get_or s 3 quiet
    ∷ with_hidden (get_or s 4 quiet) (bit (byte_at b 2) 1) ∷ []

unfoldable pub counts_in : Device → List ℕ → Device
counts_in d b = with_sources (with_counters d (counters_with d b)) (sources_with d.sources b)

-- ---- body 3
-- "outside A, B, C; catchers A, B, C; hidden errors (D0 A, D1 B)"
abbrev pub ports_with : List Port → List ℕ → List Port
ports_with q b =
    with_catcher (with_outside (get_or q 0 (bare 0)) (byte_at b 0)) (byte_at b 3)
    ∷ with_catcher (with_outside (get_or q 1 (bare 0)) (byte_at b 1)) (byte_at b 4)
    ∷ with_catcher (with_outside (get_or q 2 (bare 0)) (byte_at b 2)) (byte_at b 5) ∷ []

-- A and B of the five
abbrev pub hidden_with : List Source → List ℕ → List Source
hidden_with s b =
    get_or s 0 quiet ∷ with_hidden (get_or s 1 quiet) (bit (byte_at b 6) 0)
    ∷ get_or s 2 quiet ∷ with_hidden (get_or s 3 quiet) (bit (byte_at b 6) 1)
    ∷ get_or s 4 quiet ∷ []

unfoldable pub pins_in : Device → List ℕ → Device
pins_in d b = with_sources (with_ports d (ports_with d.ports b)) (hidden_with d.sources b)

-- ---- body 4: "IEI, phase"
unfoldable pub lines_in : Device → List ℕ → Device
lines_in d b = with_phase (with_iei d (bit (byte_at b 0) 0)) (bit (byte_at b 1) 0)

-- ---- body 5: "front byte, byte behind it, how many are held (0 to 2), then D0 for an unfinished transfer and D1 for a pair half done"
unfoldable pub transfer_in : List ℕ → ℕ → Transfer
transfer_in b p =
    transfer (byte_at b (4 * p)) (byte_at b (1 + 4 * p)) (byte_at b (2 + 4 * p)) (bit (byte_at b (3 + 4 * p)) 0) (bit (byte_at b (3 + 4 * p)) 1)

unfoldable pub transfers_in : Device → List ℕ → Device
transfers_in d b = with_transfers d (transfer_in b 0 ∷ transfer_in b 1 ∷ [])

-- ---- W-209, body 6: "pointer and state"
abbrev pub pointer_in : List ℕ → ℕ
pointer_in b = byte_at b 0

abbrev pub pointed_in : List ℕ → Bool
pointed_in b = byte_at b 1 == 1

-- ---- "unused bits 0": those that no field of the record holds. Port C's upper four bits are the record's own matter.
-- "D1 trigger (reads 0)"
abbrev pub counter_clear : ℕ → Bool
counter_clear x = not (bit x 1)

-- 0A-0C and "1F 0"; of 08 and 09, ORE and IRF, see below
abbrev pub registers_clear : List ℕ → Bool
registers_clear b =
    counter_clear (byte_at b 0x0A) && counter_clear (byte_at b 0x0B) && counter_clear (byte_at b 0x0C)
    && byte_at b 0x1F == 0

-- of flags D2 to D0 are used (in version 1 a pulse is not sound), of hidden errors D1 and D0
abbrev pub counts_clear : List ℕ → Bool
counts_clear b = ltb (byte_at b 2) 8 && ltb (byte_at b 5) 8 && ltb (byte_at b 8) 8

abbrev pub pins_clear : List ℕ → Bool
pins_clear b = ltb (byte_at b 6) 4

-- of IEI and of the phase D0
abbrev pub lines_clear : List ℕ → Bool
lines_clear b = ltb (byte_at b 0) 2 && ltb (byte_at b 1) 2

-- of a port's flags D1 and D0
abbrev pub transfers_clear : List ℕ → Bool
transfers_clear b = ltb (byte_at b 3) 4 && ltb (byte_at b 7) 4

-- of the pointer's state D0
abbrev pub pointer_clear : List ℕ → Bool
pointer_clear b = ltb (byte_at b 1) 2

-- ---- the first five together: the record that they tell, and whether all their unused bits are 0. Paper 02, W-208: the stored lines "aren't
-- in the image; restore works them out".
unfoldable pub record_in : ℕ → List ℕ → List ℕ → List ℕ → List ℕ → List ℕ → Device
record_in version registers counts pins lines transfers =
    relined (transfers_in (lines_in (pins_in (counts_in (registers_in version registers) counts) pins) lines) transfers)

unfoldable pub unused_clear : List ℕ → List ℕ → List ℕ → List ℕ → List ℕ → Bool
unused_clear registers counts pins lines transfers =
    registers_clear registers && counts_clear counts && pins_clear pins && lines_clear lines && transfers_clear transfers

-- "IRF and ORE must agree with it": D3 and D2 of 08H or 09H with what body 5 tells of that port of body 1
unfoldable pub state_agrees : List ℕ → List ℕ → ℕ → Bool
state_agrees registers transfers p =
    beq (bit (byte_at registers (0x08 + p)) 3) (ore_of (pattern_in registers p) (transfer_in transfers p))
    && beq (bit (byte_at registers (0x08 + p)) 2) (irf_of (pattern_in registers p) (transfer_in transfers p))

unfoldable pub states_agree : List ℕ → List ℕ → Bool
states_agree registers transfers = state_agrees registers transfers 0 && state_agrees registers transfers 1

-- ---- an image: "Each body is read from the middle of the image, at its entry's offset."
unfoldable pub device_in : Layout → List ℕ → Device
device_in l s = record_in l.version (body_in l 1 s) (body_in l 2 s) (body_in l 3 s) (body_in l 4 s) (body_in l 5 s)

unfoldable pub clear_in : Layout → List ℕ → Bool
clear_in l s =
    unused_clear (body_in l 1 s) (body_in l 2 s) (body_in l 3 s) (body_in l 4 s) (body_in l 5 s) && states_agree (body_in l 1 s) (body_in l 5 s)

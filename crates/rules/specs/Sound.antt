-- Paper 01, "Sound means": a named clause for each rule.
-- Assumes nothing.
use Rattle.std.specs.Prelude.{ℕ, Bool, not, ◌&&◌, ◌||◌, ltb, leb, ◌==◌}
use Rattle.std.specs.Bool.{beq}
use Rattle.rules.specs.declared.Device.{Device}
use Rattle.rules.specs.declared.Source.{Source}
use Rattle.rules.specs.declared.Counter.{Counter}
use Rattle.rules.specs.declared.Port.{Port}
use Rattle.rules.specs.declared.Pattern.{Pattern}
use Rattle.rules.specs.declared.Transfer.{Transfer}
use Rattle.rules.specs.declared.Lines.{Lines}
use Rattle.basics.specs.Byte.{bit, every, any}
use Rattle.rules.specs.With.{with_lines}
use Rattle.rules.specs.Record.{vector_at, port_at, pattern_at, transfer_at, counter_at, source_at, vacant, of_port, reset_of}
use Rattle.rules.specs.Registers.{reset, port_enabled, counter_enabled, later_config, later_port_mode, later_handshake, later_priority, later_counter_mode}
use Rattle.rules.specs.Handshakes.{outputs, handshakes, itb, strobed, depth}
use Rattle.rules.specs.PortData.{catches_at, effective_at, path_at}
use Rattle.rules.specs.Patterns.{is_and, is_or, is_priority, on_at}
use Rattle.rules.specs.Interrupts.{lines_of}

-- if the first, the second
abbrev pub only : Bool → Bool → Bool
only a b = not a || b

-- "unused bits 0": of Port C, which keeps four
unfoldable pub four_bits : Port → Bool
four_bits q =
    ltb q.polarity 16 && ltb q.direction 16 && ltb q.special 16 && ltb q.output 16 && ltb q.outside 16 && ltb q.catcher 16

-- "no code 4 setting"
abbrev pub later_port : ℕ → Pattern → Bool
later_port version q = later_port_mode version q.mode || later_handshake q.mode q.handshake || later_priority q.mode q.transition

unfoldable pub no_later : Device → Bool
no_later d =
    not (later_config d.config)
    && not (later_port d.version (pattern_at d 0)) && not (later_port d.version (pattern_at d 1))
    && not (later_counter_mode (counter_at d 0).mode) && not (later_counter_mode (counter_at d 1).mode) && not (later_counter_mode (counter_at d 2).mode)

-- "ERR only with IP"
unfoldable pub err_only : Source → Bool
err_only s = only s.err s.ip

-- "hidden error only with IP and not ERR"
unfoldable pub hidden_only : Source → Bool
hidden_only s = only s.hidden (s.ip && not s.err)

unfoldable pub sound_source : Source → Bool
sound_source s = err_only s && hidden_only s

-- "CIP only if enabled"
unfoldable pub cip_only : Bool → Counter → Bool
cip_only enabled c = only c.cip enabled

-- "half only with CIP"
unfoldable pub half_only : Counter → Bool
half_only c = only c.half c.cip

-- "10-15 all 0 for a counter without RCC"
unfoldable pub frozen_only : Counter → Bool
frozen_only c = only (not c.rcc) (c.frozen == 0)

-- paper 02, W-205: "a pulse bit, sound only in version 2 and while the counter is enabled"
unfoldable pub pulse_only : ℕ → Bool → Counter → Bool
pulse_only version enabled c = only c.pulse (version == 2 && enabled)

unfoldable pub sound_counter : ℕ → Bool → Counter → Bool
sound_counter version enabled c = cip_only enabled c && half_only c && frozen_only c && pulse_only version enabled c

-- "catchers only where allowed"
unfoldable pub catcher_only : Bool → Port → Bool
catcher_only enabled q = every (λ k. only (bit q.catcher k) (catches_at enabled q k))

-- "and set where the path is 1"
unfoldable pub catcher_set : Bool → Port → ℕ → Bool
catcher_set enabled q path = every (λ k. only (catches_at enabled q k && bit path k) (bit q.catcher k))

unfoldable pub sound_port : Bool → Port → ℕ → Bool
sound_port enabled q path = catcher_only enabled q && catcher_set enabled q path

-- "PMF only in an enabled port in mode 01 or 10 with a bit on"; W-211: in mode 11 "PMF 1 is sound"
unfoldable pub pmf_only : Bool → Pattern → Bool
pmf_only enabled p = only p.pmf (enabled && (is_and p || is_or p || is_priority p) && any (on_at p))

-- ---- paper 02, W-203 and W-206: what a port with handshake may hold
unfoldable pub same_transfer : Transfer → Transfer → Bool
same_transfer t u =
    t.front == u.front && t.behind == u.behind && t.bytes == u.bytes && beq t.unfinished u.unfinished && beq t.pair u.pair

-- bit ports, and those that are disabled, hold none of it
unfoldable pub held_only : Bool → Pattern → Transfer → Bool
held_only enabled q t = only (not (handshakes q && enabled)) (same_transfer t vacant)

-- "two bytes deep, one with SB"
unfoldable pub room_only : Pattern → Transfer → Bool
room_only q t = leb t.bytes (depth q)

-- "bytes not held are 0"
unfoldable pub bytes_only : Transfer → Bool
bytes_only t = only (t.bytes == 0) (t.front == 0) && only (ltb t.bytes 2) (t.behind == 0)

-- a transfer is unfinished only Interlocked
unfoldable pub unfinished_only : Pattern → Transfer → Bool
unfinished_only q t = only t.unfinished (not (strobed q))

-- "a pair half done, 1 only while IP and ITB are 1"
unfoldable pub pair_only : Pattern → Source → Transfer → Bool
pair_only q s t = only t.pair (s.ip && itb q)

-- W-206: "The byte put out last stays in the data register": while one is held, the front byte is that one
unfoldable pub front_only : ℕ → Pattern → Transfer → Bool
front_only output q t = only (outputs q && not (t.bytes == 0)) (output == t.front)

unfoldable pub sound_transfer : Bool → ℕ → Pattern → Source → Transfer → Bool
sound_transfer enabled output q s t =
    held_only enabled q t && room_only q t && bytes_only t && unfinished_only q t && pair_only q s t && front_only output q t

-- ---- two records are the same
unfoldable pub same_source : Source → Source → Bool
same_source s t =
    beq s.ius t.ius && beq s.ie t.ie && beq s.ip t.ip && beq s.err t.err && beq s.hidden t.hidden

unfoldable pub same_counter : Counter → Counter → Bool
same_counter c e =
    c.mode == e.mode && c.constant == e.constant && c.count == e.count && c.frozen == e.frozen
    && beq c.rcc e.rcc && beq c.gcb e.gcb && beq c.cip e.cip && beq c.half e.half && beq c.pulse e.pulse

unfoldable pub same_port : Port → Port → Bool
same_port q r =
    q.polarity == r.polarity && q.direction == r.direction && q.special == r.special
    && q.output == r.output && q.outside == r.outside && q.catcher == r.catcher

unfoldable pub same_pattern : Pattern → Pattern → Bool
same_pattern q r =
    q.mode == r.mode && q.handshake == r.handshake && q.polarity == r.polarity
    && q.transition == r.transition && q.mask == r.mask && beq q.ioe r.ioe && beq q.pmf r.pmf

-- two devices, part by part
unfoldable pub same_sources : Device → Device → Bool
same_sources d e =
    same_source (source_at d 0) (source_at e 0) && same_source (source_at d 1) (source_at e 1) && same_source (source_at d 2) (source_at e 2)
    && same_source (source_at d 3) (source_at e 3) && same_source (source_at d 4) (source_at e 4)

unfoldable pub same_counters : Device → Device → Bool
same_counters d e =
    same_counter (counter_at d 0) (counter_at e 0) && same_counter (counter_at d 1) (counter_at e 1) && same_counter (counter_at d 2) (counter_at e 2)

unfoldable pub same_ports : Device → Device → Bool
same_ports d e =
    same_port (port_at d 0) (port_at e 0) && same_port (port_at d 1) (port_at e 1) && same_port (port_at d 2) (port_at e 2)

unfoldable pub same_patterns : Device → Device → Bool
same_patterns d e = same_pattern (pattern_at d 0) (pattern_at e 0) && same_pattern (pattern_at d 1) (pattern_at e 1)

unfoldable pub same_transfers : Device → Device → Bool
same_transfers d e = same_transfer (transfer_at d 0) (transfer_at e 0) && same_transfer (transfer_at d 1) (transfer_at e 1)

unfoldable pub same_vectors : Device → Device → Bool
same_vectors d e =
    vector_at d 0 == vector_at e 0 && vector_at d 1 == vector_at e 1 && vector_at d 2 == vector_at e 2

unfoldable pub same_lines : Lines → Lines → Bool
same_lines l m = beq l.int m.int && beq l.ieo m.ieo && l.place == m.place

unfoldable pub same_of : Device → Device → Bool
same_of d e =
    d.version == e.version && d.master == e.master && d.config == e.config && same_vectors d e && same_ports d e && same_patterns d e
    && same_transfers d e && same_counters d e && same_sources d e && beq d.iei e.iei && beq d.phase e.phase
    && same_lines d.lines e.lines

-- "under RESET all as reset leaves it": all but the stored lines, which have a clause of their own
unfoldable pub reset_only : Device → Bool
reset_only d = only (reset d) (same_of d (with_lines (reset_of d) d.lines))

-- ---- all the clauses, at every source, counter and port
unfoldable pub sound_sources : Device → Bool
sound_sources d =
    sound_source (source_at d 0) && sound_source (source_at d 1) && sound_source (source_at d 2) && sound_source (source_at d 3) && sound_source (source_at d 4)

unfoldable pub sound_counters : Device → Bool
sound_counters d =
    sound_counter d.version (counter_enabled d 0) (counter_at d 0) && sound_counter d.version (counter_enabled d 1) (counter_at d 1) && sound_counter d.version (counter_enabled d 2) (counter_at d 2)

unfoldable pub sound_port_at : Device → ℕ → Bool
sound_port_at d p = sound_port (port_enabled d p) (effective_at d p) (path_at d p)

unfoldable pub sound_ports : Device → Bool
sound_ports d = four_bits (port_at d 2) && sound_port_at d 0 && sound_port_at d 1 && sound_port_at d 2

unfoldable pub sound_patterns : Device → Bool
sound_patterns d = pmf_only (port_enabled d 0) (pattern_at d 0) && pmf_only (port_enabled d 1) (pattern_at d 1)

unfoldable pub sound_transfer_at : Device → ℕ → Bool
sound_transfer_at d p = sound_transfer (port_enabled d p) (port_at d p).output (pattern_at d p) (source_at d (of_port p)) (transfer_at d p)

unfoldable pub sound_transfers : Device → Bool
sound_transfers d = sound_transfer_at d 0 && sound_transfer_at d 1

-- paper 02, W-205: a device is of version 1 or 2
unfoldable pub sound_version : Device → Bool
sound_version d = d.version == 1 || d.version == 2

-- all but the stored lines
unfoldable pub sound_but_lines : Device → Bool
sound_but_lines d =
    sound_version d && no_later d && sound_sources d && sound_counters d && sound_ports d && sound_patterns d && sound_transfers d && reset_only d

-- paper 02, W-208: "A record whose stored lines are false is unsound"
unfoldable pub sound_lines : Device → Bool
sound_lines d = same_lines d.lines (lines_of d)

unfoldable pub sound_of : Device → Bool
sound_of d = sound_but_lines d && sound_lines d

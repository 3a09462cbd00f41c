-- The device in words: one fact a line, a column for each port, counter or source.
-- Assumes nothing.
use Prim.Native.Char.{code}
use Rattle.std.specs.Prelude.{ℕ, ◌+◌, ◌-◌, ◌/◌, ◌%◌, Bool, false, ◌&&◌, List, [], ◌∷◌, ◌++◌, ltb, length, get_or, if◌then◌else◌, ◌==◌}
use Rattle.rules.specs.declared.Counter.{Counter}
use Rattle.rules.specs.declared.Source.{Source}
use Rattle.rules.specs.declared.Transfer.{Transfer}
use Rattle.rules.specs.declared.Device.{Device}
use Rattle.basics.specs.Byte.{bit}
use Rattle.rules.specs.Record.{port_at, pattern_at, transfer_at, counter_at, source_at}
use Rattle.rules.specs.Registers.{port_enabled, counter_enabled, lc}
use Rattle.rules.specs.Counters.{continuous, output_enabled, count_input, trigger_input, gate_input, retrigger, output_of}
use Rattle.rules.specs.PortData.{pins_at, seen_at}
use Rattle.rules.specs.Patterns.{match_of}
use Rattle.rules.specs.Interrupts.{requester, acknowledge, highest_at}
use Rattle.texts.specs.Answers.{line_feed}
use Rattle.texts.specs.Spelled.{spelled}
use Rattle.words.specs.Cells.{bit_cell, yes_cell, byte_cell, number_cell}

-- the end of a line
abbrev pub line_end : List ℕ
line_end = line_feed ∷ []

-- ---- bits by name
-- a name and its bit
unfoldable pub named : List ℕ → Bool → List ℕ
named w f = w ++ ((if f then code "1" else code "0") ∷ [])

-- paper 02, W-209: "pointer and state", what a Z8536 has beside its core
unfoldable pub pointer_line : ℕ → Bool → List ℕ
pointer_line pointer pointed =
    spelled "Z8536 pointer   " ++ byte_cell pointer ++ named (spelled "  state ") pointed ++ line_end

-- paper 02, W-205: "a version 1 image restores to a device that keeps the old rule"
unfoldable pub version_line : ℕ → List ℕ
version_line version = if version == 1 then spelled "version         1\n" else spelled "version         2\n"

-- "MIE, DLC, NV, VIS A, VIS B, VIS CT, RJA (stored only), RESET from D7 down"
unfoldable pub master_line : ℕ → List ℕ
master_line m =
    named (spelled "master          MIE ") (bit m 7) ++ named (spelled "  DLC ") (bit m 6) ++ named (spelled "  NV ") (bit m 5)
    ++ named (spelled "  VIS A ") (bit m 4) ++ named (spelled "  VIS B ") (bit m 3) ++ named (spelled "  VIS CT ") (bit m 2)
    ++ named (spelled "  RJA ") (bit m 1) ++ named (spelled "  RESET ") (bit m 0) ++ line_end

-- "LC 01: CT2 also needs CT1's output .. LC 10: its rise across the step triggers CT2. LC 11: its rise is CT2's only count source."
unfoldable pub link_line : ℕ → List ℕ
link_line n =
    if n == 0 then spelled "CT1's output    is not linked to CT2\n" else
    if n == 1 then spelled "CT1's output    gates CT2\n" else
    if n == 2 then spelled "CT1's output    triggers CT2\n" else
    spelled "CT1's output    is what CT2 counts\n"

-- ---- the ports
abbrev pub port_labels : List (List ℕ)
port_labels =
    spelled "enabled         "
    ∷ spelled "direction       "
    ∷ spelled "polarity        "
    ∷ spelled "special         "
    ∷ spelled "output register "
    ∷ spelled "pins            "
    ∷ spelled "catchers        " ∷ []

-- what stands beside each label, for port p
unfoldable pub port_cell : Device → ℕ → ℕ → List ℕ
port_cell d p row =
    if row == 0 then yes_cell (port_enabled d p) else
    if row == 1 then byte_cell (port_at d p).direction else
    if row == 2 then byte_cell (port_at d p).polarity else
    if row == 3 then byte_cell (port_at d p).special else
    if row == 4 then byte_cell (port_at d p).output else
    if row == 5 then byte_cell (pins_at d p) else
    byte_cell (port_at d p).catcher

unfoldable pub port_line : Device → ℕ → List ℕ
port_line d row = get_or port_labels row [] ++ port_cell d 0 row ++ port_cell d 1 row ++ port_cell d 2 row ++ line_end

-- ---- the patterns of ports A and B
abbrev pub pattern_labels : List (List ℕ)
pattern_labels =
    spelled "pattern         "
    ∷ spelled "  polarity      "
    ∷ spelled "  transition    "
    ∷ spelled "  mask          "
    ∷ spelled "PMF             " ∷ []

-- W-211: the highest of the bits that match, if one does
unfoldable pub priority_cell : Bool → ℕ → List ℕ
priority_cell matches n = spelled "  priority " ++ (if matches then 0x30 + n else 0x2D) ∷ []

-- "AND (20H/28H D2-D1 = 01) .. OR (10)"; W-211: "OR with priority-encoded vector"
unfoldable pub pattern_mode : Device → ℕ → List ℕ
pattern_mode d p =
    if (pattern_at d p).mode / 2 % 4 == 1 then spelled "         AND" else
    if (pattern_at d p).mode / 2 % 4 == 2 then spelled "          OR" else
    if (pattern_at d p).mode / 2 % 4 == 3 then priority_cell (match_of (port_enabled d p) (pattern_at d p) (seen_at d p) (seen_at d p)) (highest_at d p) else
    spelled "         off"

-- what stands beside each label, for the pattern of port p
unfoldable pub pattern_cell : Device → ℕ → ℕ → List ℕ
pattern_cell d p row =
    if row == 0 then pattern_mode d p else
    if row == 1 then byte_cell (pattern_at d p).polarity else
    if row == 2 then byte_cell (pattern_at d p).transition else
    if row == 3 then byte_cell (pattern_at d p).mask else
    bit_cell (pattern_at d p).pmf

unfoldable pub pattern_line : Device → ℕ → List ℕ
pattern_line d row = get_or pattern_labels row [] ++ pattern_cell d 0 row ++ pattern_cell d 1 row ++ line_end

-- ---- what the handshakes of ports A and B hold
abbrev pub transfer_labels : List (List ℕ)
transfer_labels =
    spelled "handshake holds "
    ∷ spelled "  front byte    "
    ∷ spelled "  byte behind   "
    ∷ spelled "  unfinished    "
    ∷ spelled "  pair half done" ∷ []

-- what stands beside each label, for a handshake
unfoldable pub transfer_cell : Transfer → ℕ → List ℕ
transfer_cell h row =
    if row == 0 then number_cell h.bytes else
    if row == 1 then byte_cell h.front else
    if row == 2 then byte_cell h.behind else
    if row == 3 then yes_cell h.unfinished else
    yes_cell h.pair

unfoldable pub transfer_line : Device → ℕ → List ℕ
transfer_line d row = get_or transfer_labels row [] ++ transfer_cell (transfer_at d 0) row ++ transfer_cell (transfer_at d 1) row ++ line_end

-- ---- the counters
abbrev pub counter_labels : List (List ℕ)
counter_labels =
    spelled "enabled         "
    ∷ spelled "mode            "
    ∷ spelled "                "
    ∷ spelled "counts          "
    ∷ spelled "trigger line    "
    ∷ spelled "gate line       "
    ∷ spelled "output line     "
    ∷ spelled "retrigger       "
    ∷ spelled "time constant   "
    ∷ spelled "count           "
    ∷ spelled "gate (GCB)      "
    ∷ spelled "in progress CIP "
    ∷ spelled "half            "
    ∷ spelled "frozen count    "
    ∷ spelled "pulse bit       "
    ∷ spelled "output          " ∷ []

-- "00 pulse, 01 one-shot, 10 square"
unfoldable pub mode_cell : ℕ → List ℕ
mode_cell mode =
    if mode % 4 == 0 then spelled "       pulse" else
    if mode % 4 == 1 then spelled "    one-shot" else
    spelled "      square"

-- continuous, or single
unfoldable pub again_cell : Bool → List ℕ
again_cell again = if again then spelled "  continuous" else spelled "      single"

-- "either a timer clock (count input 0) or a rise of the count line (1)"
unfoldable pub counts_cell : Bool → List ℕ
counts_cell input = if input then spelled "   its input" else spelled "      clocks"

-- "time constant 0 means 65,536": a running counter's count of 0
unfoldable pub count_shown : Counter → ℕ
count_shown c = if c.cip && c.count == 0 then 65536 else c.count

-- the half of a square
unfoldable pub half_cell : Bool → List ℕ
half_cell second = if second then spelled "      second" else spelled "       first"

-- the frozen count, while RCC is 1
unfoldable pub frozen_cell : Bool → ℕ → List ℕ
frozen_cell rcc n = if rcc then number_cell n else spelled "           -"

-- what stands beside each label, for a counter
unfoldable pub counter_cell : ℕ → Bool → Counter → ℕ → List ℕ
counter_cell version enabled c row =
    if row == 0 then yes_cell enabled else
    if row == 1 then mode_cell c.mode else
    if row == 2 then again_cell (continuous c) else
    if row == 3 then counts_cell (count_input c) else
    if row == 4 then yes_cell (trigger_input c) else
    if row == 5 then yes_cell (gate_input c) else
    if row == 6 then yes_cell (output_enabled c) else
    if row == 7 then yes_cell (retrigger c) else
    if row == 8 then number_cell c.constant else
    if row == 9 then number_cell (count_shown c) else
    if row == 10 then bit_cell c.gcb else
    if row == 11 then bit_cell c.cip else
    if row == 12 then half_cell c.half else
    if row == 13 then frozen_cell c.rcc c.frozen else
    if row == 14 then bit_cell c.pulse else
    bit_cell (output_of version c)

unfoldable pub counter_column : Device → ℕ → ℕ → List ℕ
counter_column d i row = counter_cell d.version (counter_enabled d i) (counter_at d i) row

unfoldable pub counter_line : Device → ℕ → List ℕ
counter_line d row = get_or counter_labels row [] ++ counter_column d 0 row ++ counter_column d 1 row ++ counter_column d 2 row ++ line_end

-- ---- the sources, in their order of priority
abbrev pub source_labels : List (List ℕ)
source_labels =
    spelled "IE              "
    ∷ spelled "IP              "
    ∷ spelled "IUS             "
    ∷ spelled "ERR             "
    ∷ spelled "hidden error    " ∷ []

-- what stands beside each label, for a source
unfoldable pub source_cell : Source → ℕ → List ℕ
source_cell s row = bit_cell (get_or (s.ie ∷ s.ip ∷ s.ius ∷ s.err ∷ s.hidden ∷ []) row false)

unfoldable pub source_line : Device → ℕ → List ℕ
source_line d row =
    get_or source_labels row [] ++ source_cell (source_at d 0) row ++ source_cell (source_at d 1) row ++ source_cell (source_at d 2) row
    ++ source_cell (source_at d 3) row ++ source_cell (source_at d 4) row ++ line_end

-- ---- the lines, who requests, and what K would give
unfoldable pub levels_line : Device → List ℕ
levels_line d =
    named (spelled "lines           INT ") d.lines.int ++ named (spelled "  IEO ") d.lines.ieo ++ named (spelled "  IEI ") d.iei
    ++ named (spelled "  phase ") d.phase ++ line_end

-- "Order: CT3, A, CT2, B, CT1."
unfoldable pub request_line : ℕ → List ℕ
request_line k =
    if k == 1 then spelled "requesting      place 1, CT3\n" else
    if k == 2 then spelled "requesting      place 2, port A\n" else
    if k == 3 then spelled "requesting      place 3, CT2\n" else
    if k == 4 then spelled "requesting      place 4, port B\n" else
    if k == 5 then spelled "requesting      place 5, CT1\n" else
    spelled "requesting      place 0, nobody\n"

-- "6 | K with no source requesting"
unfoldable pub acknowledge_line : Device → List ℕ
acknowledge_line d =
    spelled "K would give    " ++ (if ltb (requester d) 5 then byte_cell (acknowledge d) ++ line_end else spelled "code 6\n")

-- ---- all of it: lines above the ports' columns, then ports, patterns, handshakes, counters and sources, and lines below
unfoldable pub head_line : Device → ℕ → List ℕ
head_line d n =
    if n == 0 then version_line d.version else
    if n == 1 then master_line d.master else
    if n == 2 then link_line (lc d) else
    spelled "port                       A           B           C\n"

unfoldable pub tail_line : Device → ℕ → List ℕ
tail_line d n = if n == 0 then levels_line d else if n == 1 then request_line d.lines.place else acknowledge_line d

-- the first line of each
abbrev pub first_port : ℕ
first_port = 4

abbrev pub first_pattern : ℕ
first_pattern = first_port + length port_labels

abbrev pub first_transfer : ℕ
first_transfer = first_pattern + length pattern_labels

abbrev pub counter_head : ℕ
counter_head = first_transfer + length transfer_labels

abbrev pub first_counter : ℕ
first_counter = counter_head + 1

abbrev pub source_head : ℕ
source_head = first_counter + length counter_labels

abbrev pub first_source : ℕ
first_source = source_head + 1

abbrev pub first_tail : ℕ
first_tail = first_source + length source_labels

abbrev pub shown_count : ℕ
shown_count = first_tail + 3

-- line n of them
unfoldable pub shown_line : Device → ℕ → List ℕ
shown_line d n =
    if ltb n first_port then head_line d n else
    if ltb n first_pattern then port_line d (n - first_port) else
    if ltb n first_transfer then pattern_line d (n - first_pattern) else
    if ltb n counter_head then transfer_line d (n - first_transfer) else
    if ltb n first_counter then spelled "counter                  CT1         CT2         CT3\n" else
    if ltb n source_head then counter_line d (n - first_counter) else
    if ltb n first_source then spelled "source                   CT3           A         CT2           B         CT1\n" else
    if ltb n first_tail then source_line d (n - first_source) else
    tail_line d (n - first_tail)

-- Paper 01, "Registers": what kind each address is, the bits of registers 00 and 01, what a write refuses (the table of codes), and
-- the command registers. (What "Clearing IP" does stands here too, with the commands: paper 01, "Interrupts".)
-- Assumes nothing.
use Rattle.std.specs.Prelude.{ℕ, ◌+◌, ◌-◌, ◌/◌, ◌%◌, Bool, true, false, not, ◌&&◌, ◌||◌, ltb, if◌then◌else◌, ◌==◌}
use Rattle.basics.specs.Signs.{within}
use Rattle.basics.specs.Byte.{bit}
use Rattle.rules.specs.declared.Device.{Device}
use Rattle.rules.specs.declared.Source.{Source}
use Rattle.rules.specs.declared.Counter.{Counter}
use Rattle.rules.specs.declared.Pattern.{Pattern}
use Rattle.rules.specs.declared.Kind.{Kind}
use Rattle.rules.specs.declared.Kind.TheVariants.{Master, Config, Vector, Polarity, Direction, Special, PortCommand, CounterCommand, Data}
use Rattle.rules.specs.declared.Kind.TheVariants.{Current, Constant, CounterMode, CurrentVector, PortMode, Handshake, PatternPolarity, Transition, Mask, Absent}
use Rattle.rules.specs.Record.{register_count, pattern_at}
use Rattle.rules.specs.With.{with_ius, with_ie, with_ip, with_err, with_hidden}

-- "20-27 Port A mode, handshake, polarity, direction, special, pattern polarity, transition, mask; 28-2F Port B likewise."
unfoldable pub port_kind : ℕ → ℕ → Kind
port_kind p r =
    if r == 0 then PortMode p else
    if r == 1 then Handshake p else
    if r == 2 then Polarity p else
    if r == 3 then Direction p else
    if r == 4 then Special p else
    if r == 5 then PatternPolarity p else
    if r == 6 then Transition p else
    Mask p

-- "00 Master Interrupt .. 01 Master Configuration .. 02, 03, 04 vectors A, B, CT. 05-07 Port C polarity, direction, special.
-- 08, 09 port commands; 0A-0C counter commands. 0D-0F data A, B, C. 10-15 current counts, high byte first.
-- 16-1B time constants, high first. 1C-1E counter modes. 1F current vector."
unfoldable pub kind_in : ℕ → Kind
kind_in a =
    if a == 0x00 then Master else
    if a == 0x01 then Config else
    if ltb a 0x05 then Vector (a - 0x02) else
    if a == 0x05 then Polarity 2 else
    if a == 0x06 then Direction 2 else
    if a == 0x07 then Special 2 else
    if ltb a 0x0A then PortCommand (a - 0x08) else
    if ltb a 0x0D then CounterCommand (a - 0x0A) else
    if ltb a 0x10 then Data (a - 0x0D) else
    if ltb a 0x16 then Current ((a - 0x10) / 2) (a % 2 == 0) else
    if ltb a 0x1C then Constant ((a - 0x16) / 2) (a % 2 == 0) else
    if ltb a 0x1F then CounterMode (a - 0x1C) else
    if a == 0x1F then CurrentVector else
    port_kind ((a - 0x20) / 8) (a % 8)

-- past the 48 there is no register
unfoldable pub kind_of : ℕ → Kind
kind_of a = if ltb a register_count then kind_in a else Absent

-- "00 Master Interrupt: MIE, DLC, NV, VIS A, VIS B, VIS CT, RJA (stored only), RESET from D7 down."
abbrev pub mie : Device → Bool
mie d = bit d.master 7

abbrev pub dlc : Device → Bool
dlc d = bit d.master 6

abbrev pub nv : Device → Bool
nv d = bit d.master 5

-- VIS of vector v: A, B, CT
unfoldable pub vis : Device → ℕ → Bool
vis d v = bit d.master (4 - v)

abbrev pub reset : Device → Bool
reset d = bit d.master 0

-- "01 Master Configuration: Port B, CT1, CT2, Port C with CT3 enables, D3 link, D2 Port A enable, D1-D0 LC."
-- whether a configuration enables port p
unfoldable pub port_on : ℕ → ℕ → Bool
port_on config p = if p == 0 then bit config 2 else if p == 1 then bit config 7 else bit config 4

abbrev pub port_enabled : Device → ℕ → Bool
port_enabled d p = port_on d.config p

-- whether a configuration enables counter i
unfoldable pub counter_on : ℕ → ℕ → Bool
counter_on config i = if i == 0 then bit config 6 else if i == 1 then bit config 5 else bit config 4

abbrev pub counter_enabled : Device → ℕ → Bool
counter_enabled d i = counter_on d.config i

abbrev pub lc : Device → ℕ
lc d = d.config % 4

-- "Port C registers keep four bits; the upper four read 0.": what port p keeps of a byte
unfoldable pub kept : ℕ → ℕ → ℕ
kept p b = if p == 2 then b % 16 else b

-- ---- what a write refuses
-- 3: "W to 10H-15H or 1FH"
unfoldable pub read_only : ℕ → Bool
read_only a = within 0x10 0x15 a || a == 0x1F

-- "20H/28H with D7-D6 not 00, D2-D1 = 11 or D0 = 1". Paper 02, W-206: "Code 4 then covers only D7-D6 = 11 of the four
-- port types."; W-205: "A version 1 device refuses handshake settings with 4."; W-211: "Version 1 devices still refuse the mode."
unfoldable pub later_port_mode : ℕ → ℕ → Bool
later_port_mode version b = ltb (if version == 1 then 0 else 2) (b / 64) || (version == 1 && b / 2 % 4 == 3) || bit b 0

-- "It now covers a handshake port with D3-D1 not 000, with ITB and SB, or whose register 21H or 29H has D7-D6 = 10 or 11 (Pulsed,
-- 3-Wire) or D5-D3 not 000 (REQUEST/WAIT)": of the bytes of both registers
unfoldable pub later_handshake : ℕ → ℕ → Bool
later_handshake m h = (m / 64 == 1 || m / 64 == 2) && (not (m / 2 % 8 == 0) || (bit m 5 && bit m 4) || ltb 1 (h / 64) || not (h / 8 % 8 == 0))

-- W-211: "4 is kept for this mode with any transition bit set": of the bytes of both registers, in a bit port
unfoldable pub later_priority : ℕ → ℕ → Bool
later_priority m t = m / 64 == 0 && m / 2 % 4 == 3 && not (t == 0)

-- "01H with D3 = 1"
unfoldable pub later_config : ℕ → Bool
later_config b = bit b 3

-- "1CH-1EH with D1-D0 = 11"
unfoldable pub later_counter_mode : ℕ → Bool
later_counter_mode b = b % 4 == 3

-- "20-27 Port A ..; 28-2F Port B"
unfoldable pub port_of : ℕ → ℕ
port_of a = if ltb a 0x28 then 0 else 1

-- 4: "Code 4 is for" those: the byte b to address a of the device d; of two registers "whichever register is written last"
unfoldable pub later : Device → ℕ → ℕ → Bool
later d a b =
    ((a == 0x20 || a == 0x28) && (later_port_mode d.version b || later_handshake b (pattern_at d (port_of a)).handshake || later_priority b (pattern_at d (port_of a)).transition))
    || ((a == 0x21 || a == 0x29) && later_handshake (pattern_at d (port_of a)).mode b)
    || ((a == 0x26 || a == 0x2E) && later_priority (pattern_at d (port_of a)).mode b)
    || (a == 0x01 && later_config b) || (within 0x1C 0x1E a && later_counter_mode b)

-- ---- the command registers
-- "Clearing IP clears ERR; with the hidden error set, IP and ERR become 1 and the hidden error 0."
unfoldable pub ip_cleared : Source → Source
ip_cleared s = with_ip (with_err (with_hidden s false) s.hidden) s.hidden

-- "Command D7-D5: 0 none, 1 clear IP and IUS, 2 set IUS, 3 clear IUS, 4 set IP, 5 clear IP, 6 set IE, 7 clear IE."
unfoldable pub commanded : Source → ℕ → Source
commanded s n =
    if n == 1 then with_ius (ip_cleared s) false else
    if n == 2 then with_ius s true else
    if n == 3 then with_ius s false else
    if n == 4 then with_ip s true else
    if n == 5 then ip_cleared s else
    if n == 6 then with_ie s true else
    if n == 7 then with_ie s false else
    s

-- "Reads give IUS, IE, IP, ERR in D7-D4."
unfoldable pub status_of : Source → ℕ
status_of s = (if s.ius then 128 else 0) + (if s.ie then 64 else 0) + (if s.ip then 32 else 0) + (if s.err then 16 else 0)

-- "Port: D1 PMF, D0 IOE (written), D3-D2 read 0." Paper 02, W-203: "IRF is D2 of the command register"; W-206: "ORE is D3 as IRF
-- is D2."
abbrev pub port_command_of : Source → Pattern → Bool → Bool → ℕ
port_command_of s q ore irf =
    status_of s + ((if ore then 8 else 0) + (if irf then 4 else 0) + (if q.pmf then 2 else 0) + (if q.ioe then 1 else 0))

-- "Counter: D3 RCC, D2 GCB, D1 trigger (reads 0), D0 CIP."
abbrev pub counter_command_of : Source → Counter → ℕ
counter_command_of s c = status_of s + ((if c.rcc then 8 else 0) + (if c.gcb then 4 else 0) + (if c.cip then 1 else 0))

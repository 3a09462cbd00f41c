-- Paper 01, "Registers": what each kind of register reads, what a read does, and the direct effect (a) of a write.
-- Assumes nothing.
use Rattle.std.specs.Prelude.{ℕ, ◌-◌, ◌/◌, Bool, not, ◌&&◌, ◌||◌, [], ◌∷◌, if◌then◌else◌, ◌==◌}
use Rattle.rules.specs.declared.Device.{Device}
use Rattle.rules.specs.declared.Pattern.{Pattern}
use Rattle.rules.specs.declared.Transfer.{Transfer}
use Rattle.rules.specs.declared.Kind.{Kind}
use Rattle.rules.specs.declared.Kind.TheVariants.{Master, Config, Vector, Polarity, Direction, Special, PortCommand, CounterCommand, Data}
use Rattle.rules.specs.declared.Kind.TheVariants.{Current, Constant, CounterMode, CurrentVector, PortMode, Handshake, PatternPolarity, Transition, Mask, Absent}
use Rattle.basics.specs.Signs.{within}
use Rattle.basics.specs.Byte.{bit, byte_in, with_byte}
use Rattle.rules.specs.With.{with_master, with_config, with_vector, with_port, with_pattern, with_pair, with_transfer, with_transfers, with_counter, with_counters, with_source, with_polarity}
use Rattle.rules.specs.With.{with_direction, with_special, with_constant, with_mode, with_port_mode, with_handshake, with_pattern_polarity, with_transition, with_mask, with_ioe}
use Rattle.rules.specs.Record.{port_at, pattern_at, transfer_at, counter_at, source_at, vacant, of_port, of_counter, reset_of}
use Rattle.rules.specs.Registers.{kept, port_on, port_enabled, counter_on, counter_enabled, commanded, port_command_of, counter_command_of}
use Rattle.rules.specs.Handshakes.{inputs, outputs, irf_at, ore_at}
use Rattle.rules.specs.PortData.{direction_at, data_at, written_data}
use Rattle.rules.specs.Moves.{given_at, stored_at}
use Rattle.rules.specs.Counters.{commanded_by, thawed, shown, enabled_by}
use Rattle.rules.specs.Interrupts.{vector_read, current_vector}

-- the command registers of port p and of counter i, as read
unfoldable pub port_command : Device → ℕ → ℕ
port_command d p = port_command_of (source_at d (of_port p)) (pattern_at d p) (ore_at d p) (irf_at d p)

unfoldable pub counter_command : Device → ℕ → ℕ
counter_command d i = counter_command_of (source_at d (of_counter i)) (counter_at d i)

-- ---- the byte that a register reads
unfoldable pub read_of : Device → Kind → ℕ
read_of d Master = d.master
read_of d Config = d.config
read_of d (Vector v) = vector_read d v
read_of d (Polarity p) = (port_at d p).polarity
read_of d (Direction p) = (port_at d p).direction
read_of d (Special p) = (port_at d p).special
read_of d (PortCommand p) = port_command d p
read_of d (CounterCommand i) = counter_command d i
read_of d (Data p) = data_at d p
read_of d (Current i high) = byte_in high (shown (counter_at d i))
read_of d (Constant i high) = byte_in high (counter_at d i).constant
read_of d (CounterMode i) = (counter_at d i).mode
read_of d CurrentVector = current_vector d
read_of d (PortMode p) = (pattern_at d p).mode
read_of d (Handshake p) = (pattern_at d p).handshake
read_of d (PatternPolarity p) = (pattern_at d p).polarity
read_of d (Transition p) = (pattern_at d p).transition
read_of d (Mask p) = (pattern_at d p).mask
read_of d Absent = 0

-- the read of the data of an input port with handshake, at 0DH or 0EH; and the write of an output port's
unfoldable pub reads_byte : Device → ℕ → Bool
reads_byte d a = within 0x0D 0x0E a && inputs (pattern_at d (a - 0x0D))

unfoldable pub writes_byte : Device → ℕ → Bool
writes_byte d a = within 0x0D 0x0E a && outputs (pattern_at d (a - 0x0D))

-- "reading that low byte returns it, then RCC = 0": the record after the read of address a; the low bytes are 11H, 13H, 15H
unfoldable pub after_read : Device → ℕ → Device
after_read d a =
    if within 0x10 0x15 a && bit a 0 then with_counter d ((a - 0x10) / 2) (thawed (counter_at d ((a - 0x10) / 2))) else
    if reads_byte d a then given_at d (a - 0x0D) else
    d

-- ---- the parts of a write
-- "Reset (.. or D0 written 1 to 00)"; "Writing D0 = 0 to 00 stores the whole byte."
unfoldable pub master_written : Device → ℕ → Device
master_written d b = if bit b 0 then reset_of d else with_master d b

-- paper 02, W-203: "Disabling the port .. drops" what it holds
unfoldable pub kept_by : Bool → Transfer → Transfer
kept_by v t = if v then t else vacant

-- "Clearing an enable clears CIP and half"
unfoldable pub config_written : Device → ℕ → Device
config_written d b =
    with_transfers
    (with_counters (with_config d b)
    (enabled_by (counter_on b 0) (counter_at d 0) ∷ enabled_by (counter_on b 1) (counter_at d 1) ∷ enabled_by (counter_on b 2) (counter_at d 2) ∷ []))
    (kept_by (port_on b 0) (transfer_at d 0) ∷ kept_by (port_on b 1) (transfer_at d 1) ∷ [])

-- whether a command clears IP: "1 clear IP and IUS", "5 clear IP"
abbrev pub clears_ip : ℕ → Bool
clears_ip n = n == 1 || n == 5

-- a command to port p: "D0 IOE (written)". "a pair half done, 1 only while IP and ITB are 1": where IP is cleared there is none
unfoldable pub port_commanded : Device → ℕ → ℕ → Device
port_commanded d p b =
    with_transfer
    (with_source (with_pattern d p (with_ioe (pattern_at d p) (bit b 0))) (of_port p) (commanded (source_at d (of_port p)) (b / 32))) p
    (with_pair (transfer_at d p) ((transfer_at d p).pair && not (clears_ip (b / 32))))

-- a command to counter i
unfoldable pub counter_commanded : Device → ℕ → ℕ → Device
counter_commanded d i b =
    with_source (with_counter d i (commanded_by (counter_enabled d i) b (counter_at d i))) (of_counter i) (commanded (source_at d (of_counter i)) (b / 32))

-- a write to the data of port p. Paper 02, W-206: an enabled output port holds the byte; a disabled one holds nothing, and the byte is
-- stored in its data register alone
unfoldable pub data_written : Device → ℕ → ℕ → Device
data_written d p b =
    if outputs (pattern_at d p) && port_enabled d p then stored_at d p b else
    with_port d p (written_data (port_at d p) (direction_at d p) p b)

-- paper 02, W-203: "writing its mode or handshake register drops them": the port p, set up anew
abbrev pub set_up : Device → ℕ → Pattern → Device
set_up d p q = with_transfer (with_pattern d p q) p vacant

-- ---- the record after the direct effect of a write
unfoldable pub written_of : Device → Kind → ℕ → Device
written_of d Master b = master_written d b
written_of d Config b = config_written d b
written_of d (Vector v) b = with_vector d v b
written_of d (Polarity p) b = with_port d p (with_polarity (port_at d p) (kept p b))
written_of d (Direction p) b = with_port d p (with_direction (port_at d p) (kept p b))
written_of d (Special p) b = with_port d p (with_special (port_at d p) (kept p b))
written_of d (PortCommand p) b = port_commanded d p b
written_of d (CounterCommand i) b = counter_commanded d i b
written_of d (Data p) b = data_written d p b
written_of d (Current i high) b = d
written_of d (Constant i high) b = with_counter d i (with_constant (counter_at d i) (with_byte high (counter_at d i).constant b))
written_of d (CounterMode i) b = with_counter d i (with_mode (counter_at d i) b)
written_of d CurrentVector b = d
written_of d (PortMode p) b = set_up d p (with_port_mode (pattern_at d p) b)
written_of d (Handshake p) b = set_up d p (with_handshake (pattern_at d p) b)
written_of d (PatternPolarity p) b = with_pattern d p (with_pattern_polarity (pattern_at d p) b)
written_of d (Transition p) b = with_pattern d p (with_transition (pattern_at d p) b)
written_of d (Mask p) b = with_pattern d p (with_mask (pattern_at d p) b)
written_of d Absent b = d

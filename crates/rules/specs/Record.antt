-- The record: its parts by their place, what a reset leaves, and the fresh device.
-- Assumes nothing.
use Rattle.std.specs.Prelude.{ℕ, ◌+◌, ◌-◌, ◌*◌, Bool, true, false, [], ◌∷◌, ◌≡◌, length, get_or, if◌then◌else◌, ◌==◌}
use Rattle.rules.specs.declared.Source.{Source}
use Rattle.rules.specs.declared.Counter.{Counter}
use Rattle.rules.specs.declared.Port.{Port}
use Rattle.rules.specs.declared.Pattern.{Pattern}
use Rattle.rules.specs.declared.Transfer.{Transfer}
use Rattle.rules.specs.declared.Lines.{Lines}
use Rattle.rules.specs.declared.Device.{Device}
use Rattle.rules.specs.With.{transfer, device}

-- "the 84 and the 48 are named once, with the device". Paper 02, W-205: of version 2 "The whole is 96 bytes."
unfoldable pub image_len : ℕ → ℕ
image_len version = if version == 1 then 84 else 96

abbrev pub register_count : ℕ
register_count = 48

-- ---- what reset leaves of each part; of a port "outside pins .. stay"
abbrev pub quiet : Source
quiet = record { ius = false; ie = false; ip = false; err = false; hidden = false }

abbrev pub idle : Counter
idle = record { mode = 0; constant = 0; count = 0; frozen = 0; rcc = false; gcb = false; cip = false; half = false; pulse = false }

abbrev pub bare : ℕ → Port
bare levels = record { polarity = 0; direction = 0; special = 0; output = 0; outside = levels; catcher = 0 }

abbrev pub blank : Pattern
blank = record { mode = 0; handshake = 0; polarity = 0; transition = 0; mask = 0; ioe = false; pmf = false }

abbrev pub vacant : Transfer
vacant = transfer 0 0 0 false false

-- paper 02, W-208: of the stored lines INT 0 and no requester; IEO is IEI
abbrev pub silent : Bool → Lines
silent iei = record { int = false; ieo = iei; place = 0 }

-- ---- the parts by their place: vectors A, B, CT; ports A, B, C; patterns and transfers A, B; counters 1, 2, 3; sources CT3, A, CT2, B, CT1.
-- Past its end an array reads as an empty part.
abbrev pub vector_at : Device → ℕ → ℕ
vector_at d v = get_or d.vectors v 0

abbrev pub port_at : Device → ℕ → Port
port_at d p = get_or d.ports p (bare 0)

abbrev pub pattern_at : Device → ℕ → Pattern
pattern_at d p = get_or d.patterns p blank

abbrev pub transfer_at : Device → ℕ → Transfer
transfer_at d p = get_or d.transfers p vacant

abbrev pub counter_at : Device → ℕ → Counter
counter_at d i = get_or d.counters i idle

abbrev pub source_at : Device → ℕ → Source
source_at d k = get_or d.sources k quiet

-- "Order: CT3, A, CT2, B, CT1": where the sources of port p and of counter i stand
abbrev pub of_port : ℕ → ℕ
of_port p = 1 + 2 * p

abbrev pub of_counter : ℕ → ℕ
of_counter i = 4 - 2 * i

-- "Reset (X, or D0 written 1 to 00): register 00 is 01H, all else 0, clock phase 0; outside pins and IEI stay.":
-- with these outside levels and this IEI. Paper 02, W-205: "a reset keeps the version".
abbrev pub reset_to : ℕ → ℕ → ℕ → ℕ → Bool → Device
reset_to n a b c v =
    device n 0x01 0x00 (0 ∷ 0 ∷ 0 ∷ []) (bare a ∷ bare b ∷ bare c ∷ []) (blank ∷ blank ∷ []) (vacant ∷ vacant ∷ []) (idle ∷ idle ∷ idle ∷ [])
    (quiet ∷ quiet ∷ quiet ∷ quiet ∷ quiet ∷ []) v false (silent v)

unfoldable pub reset_of : Device → Device
reset_of d = reset_to d.version (port_at d 0).outside (port_at d 1).outside (port_at d 2).outside d.iei

-- "The fresh device (reset, outside pins 0, IEI 1)"; "fresh devices follow the new rule"
abbrev pub fresh_of : Device
fresh_of = reset_to 2 0 0 0 true

-- ---- the records that there are: the arrays have the lengths that the struct gives them
pub record Shaped (d : Device) : Type 0 where
  pub vectors : length d.vectors ≡ 3
  pub ports : length d.ports ≡ 3
  pub patterns : length d.patterns ≡ 2
  pub transfers : length d.transfers ≡ 2
  pub counters : length d.counters ≡ 3
  pub sources : length d.sources ≡ 5

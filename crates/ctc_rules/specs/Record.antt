-- docs/CTC.md, "The device" and "Reset": the channels by their place, the bits of a control register, and what a reset leaves.
-- Assumes nothing.
use Rattle.std.specs.Prelude.{ℕ, Bool, true, false, List, [], ◌∷◌, ◌≡◌, length, get_or, if◌then◌else◌}
use Rattle.basics.specs.Byte.{bit}
use Rattle.ctc_rules.specs.declared.Channel.{Channel}
use Rattle.ctc_rules.specs.declared.Ctc.{Ctc}
use Rattle.ctc_rules.specs.Set.{channel_of}

-- ---- the control register
-- "D7 enables the interrupt."
abbrev pub interrupt_on : Channel → Bool
interrupt_on c = bit c.control 7

-- "D6 is the mode: 1 counter, 0 timer."
abbrev pub counter_mode : Channel → Bool
counter_mode c = bit c.control 6

-- "D5 is the prescaler's factor: 1 is 256, 0 is 16."
abbrev pub by256 : Channel → Bool
by256 c = bit c.control 5

unfoldable pub factor_of : Channel → ℕ
factor_of c = if by256 c then 256 else 16

-- "D4 is the active edge: 1 rising, 0 falling."
abbrev pub rising_edge : Channel → Bool
rising_edge c = bit c.control 4

-- "D3 is the timer's start: 0 at its constant, 1 at an active edge."
abbrev pub by_trigger : Channel → Bool
by_trigger c = bit c.control 3

-- ---- the four channels
-- what is done at each of the four, by one rule over the index
abbrev pub four_of : {A : Type 0} → (ℕ → A) → List A
four_of f = f 0 ∷ f 1 ∷ f 2 ∷ f 3 ∷ []

-- "Reset .. leaves all channels stopped, with no constant, and 0 in everything else"
abbrev pub blank_channel : Channel
blank_channel = channel_of 0 0 0 0 false false false false false

-- the channel of a number; past the fourth an empty one is read
abbrev pub channel_at : Ctc → ℕ → Channel
channel_at d i = get_or d.channels i blank_channel

-- the array has the length that the struct gives it: there is no other record
abbrev pub FourChannels : Ctc → Type 0
FourChannels d = length d.channels ≡ 4

-- ---- reset
-- "Reset (X): .. vector 0; the trigger levels and IEI stay.": with these levels and this IEI
abbrev pub blank_with : ℕ → Bool → Ctc
blank_with l v = record { channels = four_of (λ i. blank_channel); vector = 0; levels = l; iei = v }

unfoldable pub reset_ctc : Ctc → Ctc
reset_ctc d = blank_with d.levels d.iei

-- "The fresh device: reset, trigger levels 0, IEI 1."
abbrev pub fresh_ctc : Ctc
fresh_ctc = blank_with 0 true

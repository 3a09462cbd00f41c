-- n clocks of the device are n clocks of each channel by itself: none feeds another.
-- Assumes nothing.
use Prim.Native.Nat.{ℕ, zero, suc}
use mathlib.Core.Path.{◌≡◌, refl, ap, ◌∙◌}
use mathlib.Core.List.{List, [], ◌∷◌}
use native.Mathlib.Omega.{arith}
use lib.ListN.{get_or, length}
use Rattle.basics.specs.Iterate.{iterate}
use Rattle.basics.proofs.Lists.{three}
use Rattle.ctc_rules.specs.declared.Channel.{Channel}
use Rattle.ctc_rules.specs.declared.Ctc.{Ctc}
use Rattle.ctc_rules.specs.declared.ChannelRan.{ChannelRan}
use Rattle.ctc_rules.specs.declared.CtcRan.{CtcRan}
use Rattle.ctc_rules.specs.Set.{set_channels}
use Rattle.ctc_rules.specs.Record.{four_of, blank_channel, channel_at, FourChannels}
use Rattle.ctc_rules.specs.Clocks.{no_zeros, clock_ctc, ran_ctc}
use Rattle.ctc_laws.specs.Divided.{tick_channel, unticked}

-- a list of four is its elements
pub four : {A : Type 0} (x : A) (l : List A) → length l ≡ 4 → l ≡ four_of (λ i. get_or l i x)
four x [] h = absurd (omega arith)
four x (a ∷ l) h = ap (λ (m : List _). a ∷ m) (three x l (omega arith))

-- the device with its channels after their clocks
abbrev pub joined : Ctc → (ℕ → ChannelRan) → CtcRan
joined d s = record { device = set_channels d (four_of (λ i. (s i).channel)); zeros = four_of (λ i. (s i).zeros) }

-- one clock more of all four
ticked : (d : Ctc) (s : ℕ → ChannelRan) → clock_ctc (joined d s) ≡ joined d (λ i. tick_channel (s i))
unfolding clock_ctc tick_channel
ticked d s = refl

-- n clocks
pub ran-apart : (n : ℕ) (d : Ctc) → FourChannels d → ran_ctc n d ≡ joined d (λ i. iterate n tick_channel (unticked (channel_at d i)))
unfolding ran_ctc iterate
ran-apart zero d h = ap (λ (l : List Channel). record { device = set_channels d l; zeros = no_zeros }) (four blank_channel d.channels h)
ran-apart (suc n) d h = ap clock_ctc (ran-apart n d h) ∙ ticked d (λ i. iterate n tick_channel (unticked (channel_at d i)))

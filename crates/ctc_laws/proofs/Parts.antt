-- What soundness says, clause by clause.
-- Assumes nothing.
use Prim.Native.Nat.{ℕ, zero, suc, ◌%◌, ◌<◌}
use mathlib.Core.Path.{◌≡◌}
use mathlib.Core.List.{[], ◌∷◌}
use mathlib.Core.Bool.{true}
use native.Mathlib.Omega.{arith}
use lib.Dec.{eqb, ltb}
use borrow.Author.Tests.{ltb-true}
use Rattle.basics.proofs.Tests.{each}
use Rattle.ctc_rules.specs.declared.Channel.{Channel}
use Rattle.ctc_rules.specs.declared.Ctc.{Ctc}
use Rattle.ctc_rules.specs.Record.{factor_of, channel_at}
use Rattle.ctc_rules.specs.Sound.{control_bits, runs_loaded, constant_loaded, counter_runs, prescaler_below, prescaler_timed, sound_channel, sound_ctc}

-- a channel
pub record SoundParts (c : Channel) : Type 0 where
  pub bits : control_bits c ≡ true
  pub runs : runs_loaded c ≡ true
  pub constant : constant_loaded c ≡ true
  pub counter : counter_runs c ≡ true
  pub below : prescaler_below c ≡ true
  pub timed : prescaler_timed c ≡ true

pub channel-parts : (c : Channel) → sound_channel c ≡ true → SoundParts c
unfolding sound_channel
channel-parts c s =
    let l = control_bits c ∷ runs_loaded c ∷ constant_loaded c ∷ counter_runs c ∷ prescaler_below c ∷ prescaler_timed c ∷ [] in
    record { bits = each l s 0; runs = each l s 1; constant = each l s 2; counter = each l s 3; below = each l s 4; timed = each l s 5 }

-- and together
pub channel-sound : (c : Channel) → SoundParts c → sound_channel c ≡ true
unfolding sound_channel
channel-sound c p = simp (p.bits, p.runs, p.constant, p.counter, p.below, p.timed)

pub sound-below : (c : Channel) → sound_channel c ≡ true → c.prescaler < factor_of c
unfolding prescaler_below
sound-below c s = ltb-true c.prescaler (factor_of c) (channel-parts c s).below

-- the device
pub record SoundDevice (d : Ctc) : Type 0 where
  pub zeroth : sound_channel (channel_at d 0) ≡ true
  pub first : sound_channel (channel_at d 1) ≡ true
  pub second : sound_channel (channel_at d 2) ≡ true
  pub third : sound_channel (channel_at d 3) ≡ true
  pub vector : eqb (d.vector % 8) 0 ≡ true
  pub levels : ltb d.levels 16 ≡ true

pub device-parts : (d : Ctc) → sound_ctc d ≡ true → SoundDevice d
unfolding sound_ctc
device-parts d s =
    let l =
    sound_channel (channel_at d 0) ∷ sound_channel (channel_at d 1) ∷ sound_channel (channel_at d 2) ∷ sound_channel (channel_at d 3) ∷ eqb (d.vector % 8) 0
    ∷ ltb d.levels 16 ∷ [] in
    record { zeroth = each l s 0; first = each l s 1; second = each l s 2; third = each l s 3; vector = each l s 4; levels = each l s 5 }

pub device-sound : (d : Ctc) → SoundDevice d → sound_ctc d ≡ true
unfolding sound_ctc
device-sound d p = simp (p.zeroth, p.first, p.second, p.third, p.vector, p.levels)

-- each of the four
pub channel-of : (d : Ctc) → SoundDevice d → (i : ℕ) → i < 4 → sound_channel (channel_at d i) ≡ true
channel-of d p zero h = p.zeroth
channel-of d p (suc zero) h = p.first
channel-of d p (suc (suc zero)) h = p.second
channel-of d p (suc (suc (suc zero))) h = p.third
channel-of d p (suc (suc (suc (suc i)))) h = absurd (omega arith)

-- "for a counter without RCC": RCC, or it is so
use Prim.Native.Nat.{ℕ}
use mathlib.Core.Path.{◌≡◌, refl}
use mathlib.Core.Bool.{Bool, true, false, not, ◌&&◌, ◌||◌}
use lib.Dec.{eqb}
use Rattle.rules.specs.declared.Counter.{Counter}
use Rattle.rules.specs.Sound.{sound_counter, cip_only, half_only, frozen_only, pulse_only}
use Rattle.refusals.proofs.soundness.sound_counter.Goals as goal

by-rcc : (r enabled : Bool) (version : ℕ) (c : Counter) → c.rcc ≡ r
    → ((not c.cip || enabled) && (not c.half || c.cip) && (c.rcc || eqb c.frozen 0) && (not c.pulse || (eqb version 2 && enabled)))
    ≡ sound_counter version enabled c
unfolding sound_counter cip_only half_only frozen_only pulse_only
by-rcc true enabled version c p = simp p
by-rcc false enabled version c p = simp p

pub returns : goal.returns
returns c = by-rcc _ _ _ _ refl
